use Rattle.std.proofs.Common.{sym, append-nil}
use Rattle.lane_core.specs.Ends.{sent, taken}
use Rattle.control_half.specs.Published.{in_batches, in_kept}
use Rattle.control_half.proofs.Applying.{head_applied}
use Rattle.control_half.proofs.inner.ControlInner.apply.Goals as goal

pub invariant_of-self-2-clause-applies : goal.invariant_of-self-2-clause-applies
invariant_of-self-2-clause-applies c =
    let old = c.args.self.now in
    head_applied old.first old.started old.head (taken old.commands) old.due (in_batches (sent old.versions))
    (in_kept old.batch) old.control.session _ old.control.number _ old.control.notes.items _ c.in-Some.item
    c.in-Some.is c.requires.done old.in_order old.applies c.in_ok-apply.ensures.session c.in_ok-apply.ensures.number
    c.in_ok-apply.ensures.notes

pub invariant_of-self-2-clause-in_order : goal.invariant_of-self-2-clause-in_order
invariant_of-self-2-clause-in_order c = sym (append-nil (taken c.args.self.now.commands))
