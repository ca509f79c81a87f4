use Rattle.audit_core.specs.Judged.{asked_of}
use Rattle.audit_core.proofs.JudgeSteps.{over_by}
use Rattle.audit_core.proofs.judge.Judge.is_over.Goals as goal

pub returns : goal.returns
returns c = over_by c.wants.result (asked_of c.args.self.now.broken) c.wants.ensures
