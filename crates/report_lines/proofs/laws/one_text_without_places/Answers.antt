use Rattle.std.proofs.Common.{false}
use Rattle.report_lines.specs.Text.{shown}
use Rattle.report_lines.proofs.TextLemmas.{shown_is, text_tells}
use Rattle.report_lines.proofs.laws.one_text_without_places.Goals as goal

pub returns : goal.returns
returns c one other is also same =
    text_tells (shown false one) (shown false other) (shown_is one false is) (shown_is other false also) same
