use Rattle.std.proofs.Common.{◌≡◌, not, None, ap, ◌∙◌}
use Rattle.lane_core.specs.Ends.{taken}
use Rattle.counter_half.specs.Learnt.{learnt_in}
use Rattle.counter_half.proofs.Looking.{none_of, looked_in_order, looked_came}
use Rattle.counter_half.proofs.inner.DataInner.look.Goals as goal

pub invariant_of-self-clause-in_order : goal.invariant_of-self-clause-in_order
invariant_of-self-clause-in_order g c =
    let old = c.args.self.now in
    let none : old.batch ≡ None = none_of old.batch (c.is_none.ensures ∙ ap not c.if-is_none.true) in
    looked_in_order old.batch c.take.result (taken old.versions) (taken c.take.new.self)
    (learnt_in old.state.learnt.items) _ _
    none old.in_order c.take.ensures.next

pub invariant_of-self-clause-came : goal.invariant_of-self-clause-came
invariant_of-self-clause-came g c =
    looked_came c.take.result (taken c.args.self.now.versions) (taken c.take.new.self) _ _ c.take.ensures.next
