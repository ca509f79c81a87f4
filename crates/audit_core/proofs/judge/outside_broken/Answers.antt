use Rattle.std.proofs.Common.{◌∙◌, Some, sym, ap}
use Rattle.audit_core.specs.Telling.{at_line}
use Rattle.audit_core.proofs.JudgeSteps.{outside_charge, outside_effect, outside_some}
use Rattle.audit_core.proofs.judge.outside_broken.Goals as goal

pub returns-in_ok-place-in-Line : goal.returns-in_ok-place-in-Line
returns-in_ok-place-in-Line c = λ count entries is.
    outside_some count entries _ c.in_ok-place-in-Line.place (ap Some (sym c.in-Line.is) ∙ is)
    (c.in_ok-place-in-Line.ensures ∙ ap (at_line _) c.in_ok-due-in-Line.ensures)

pub returns-in-Effect : goal.returns-in-Effect
returns-in-Effect c = λ count entries is. absurd (outside_effect count entries _ (ap Some (sym c.in-Effect.is) ∙ is))

pub returns-in-Charge : goal.returns-in-Charge
returns-in-Charge c = λ count entries is. absurd (outside_charge count entries _ (ap Some (sym c.in-Charge.is) ∙ is))
