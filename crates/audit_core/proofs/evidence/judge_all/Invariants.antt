use Rattle.audit_core.specs.Evidence.{IsCaseOf}
use Rattle.audit_core.specs.Judged.{Case}
use Rattle.audit_core.proofs.EvidenceSteps.{JudgedAt}
use Rattle.audit_core.proofs.evidence.judge_all.Given as goal

abbrev pub invariant-loop-epoch : goal.invariant-loop-epoch
invariant-loop-epoch l = (own : Case) → IsCaseOf own l.fn.setup l.fn.trace l.report
    → JudgedAt own l.epoch l.fn.setup l.subscribers.items l.judge
