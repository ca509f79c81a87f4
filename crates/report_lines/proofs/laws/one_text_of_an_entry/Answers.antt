use Rattle.report_lines.proofs.TextLemmas.{text_tells}
use Rattle.report_lines.proofs.laws.one_text_of_an_entry.Goals as goal

pub returns : goal.returns
returns c one other is also same = text_tells one other is also same
