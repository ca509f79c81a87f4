use Rattle.std.proofs.Common.{◌∙◌, sym}
use Rattle.audit_core.proofs.JudgeSteps.{outside_none}
use Rattle.audit_core.proofs.judge.first_broken.Goals as goal

pub returns-in-None : goal.returns-in-None
returns-in-None c = λ count entries is. outside_none count entries (sym c.in-None.is ∙ is)

pub returns-in-Some : goal.returns-in-Some
returns-in-Some c = λ count entries is. c.outside_broken.ensures count entries (sym c.in-Some.is ∙ is)
