use Rattle.std.proofs.Common.{refl}
use Rattle.audit_core.specs.Meant.{lines_of}
use Rattle.audit_core.proofs.CountLemmas.{passed_none}
use Rattle.audit_core.proofs.counts.begins.Goals as goal

pub returns-clause-passed : goal.returns-clause-passed
returns-clause-passed c = λ slot are.
    passed_none slot c.args.start (lines_of c.args.lines.now) _ refl refl (c.next_count.ensures slot are) refl
