use Rattle.std.proofs.Common.{rules, [], refl, ap, sym}
use Rattle.lane_core.specs.Ends.{sent, taken}
use Rattle.control_half.specs.Published.{in_batches}
use Rattle.control_half.proofs.Applying.{applied_none}
use Rattle.control_half.proofs.Room.{room_for}
use Rattle.control_half.proofs.inner.ControlInner.start.Goals as goal

pub invariant_of-result-clause-applies : goal.invariant_of-result-clause-applies
invariant_of-result-clause-applies c =
    applied_none c.args.number _ _ (taken c.args.commands) _ (in_batches (sent c.args.versions)) []
    (sym c.of-started.ensures)
    c.requires.new.0 c.new-notes.ensures.items (ap in_batches c.requires.new.1) refl

pub invariant_of-result-clause-roomy : goal.invariant_of-result-clause-roomy
invariant_of-result-clause-roomy c =
    room_for c.counts_rise_by_one.ensures _ _ (search rules) (search rules) c.requires.room.2
