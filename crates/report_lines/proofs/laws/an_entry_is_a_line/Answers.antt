use Rattle.report_lines.proofs.TextLemmas.{entry_prints}
use Rattle.report_lines.proofs.laws.an_entry_is_a_line.Goals as goal

pub returns : goal.returns
returns c = entry_prints
