use Rattle.std.proofs.Common.{IfNone, IfOk, IfSome, subst}
use Rattle.audit_core.specs.Bounds.{FirstCount}
use Rattle.audit_core.specs.OfSlot.{CountsRise}
use Rattle.audit_core.specs.Played.{CountsBelow}
use Rattle.audit_core.proofs.PlayLemmas.{counts_kept, counts_next}
use Rattle.audit_core.proofs.slots.next_counts.Goals as goal

pub returns-in-Some : goal.returns-in-Some
returns-in-Some c = λ slot first histories all are same start below.
    counts_kept slot histories all c.in-Some.broken (subst (CountsBelow slot histories all) c.in-Some.is below)

pub returns-in-None : goal.returns-in-None
returns-in-None c = λ slot first histories all are same start below.
    counts_next slot histories all c.count_broken.result (subst (CountsBelow slot histories all) c.in-None.is below)
    (subst (λ n. IfOk c.count_broken.result (λ found. IfSome found (FirstCount slot n all))) start
    (c.count_broken.ensures.some slot first all are same))
    (subst (λ n. IfOk c.count_broken.result (λ found. IfNone found (CountsRise slot n all))) start
    (c.count_broken.ensures.none slot first all are same))
