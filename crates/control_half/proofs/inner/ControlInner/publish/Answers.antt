use Rattle.lane_core.specs.Ends.{sent, taken}
use Rattle.control_half.specs.Applied.{before_head}
use Rattle.control_half.proofs.Sending.{due_is_next}
use Rattle.control_half.proofs.inner.ControlInner.publish.Goals as goal

pub joined-requires-clause-next : goal.joined-requires-clause-next
joined-requires-clause-next c =
    let old = c.args.self.now in
    due_is_next old.first old.started (before_head old.head (taken old.commands)) (sent old.versions) old.batch
    c.take.result old.due c.in-Some.floor old.control.session old.control.number c.in_ok-version.version
    c.take.ensures.value c.in-Some.is c.in_ok-version.ensures old.applies.versions
