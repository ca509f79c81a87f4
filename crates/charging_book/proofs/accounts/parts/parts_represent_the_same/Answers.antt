use Rattle.charging_book.proofs.PartLemmas.{parts_stand}
use Rattle.charging_book.proofs.accounts.parts.parts_represent_the_same.Goals as goal

pub returns : goal.returns
returns c = parts_stand
