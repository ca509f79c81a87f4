use Rattle.report_lines.proofs.TextLemmas.{shown_is}
use Rattle.report_lines.proofs.laws.without_place_an_entry.Goals as goal

pub returns : goal.returns
returns c told places is = shown_is told places is
