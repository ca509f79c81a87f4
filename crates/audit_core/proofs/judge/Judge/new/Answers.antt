use Rattle.std.proofs.Common.{length}
use Rattle.audit_core.specs.Entries.{all_lines}
use Rattle.audit_core.proofs.JudgeSteps.{judged_first}
use Rattle.audit_core.proofs.judge.Judge.new.Goals as goal

pub returns-clause-begins : goal.returns-clause-begins
returns-clause-begins c = λ own is.
    judged_first own c.args.setup c.in_ok-broken.broken
    (c.in_ok-broken.ensures (length (all_lines own.made)) own.entries is)
