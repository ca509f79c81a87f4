use Rattle.charging_book.proofs.Bounds.{are_bounded}
use Rattle.charging_book.proofs.accounts.counts_are_bounded.Goals as goal

pub returns : goal.returns
returns c = are_bounded
