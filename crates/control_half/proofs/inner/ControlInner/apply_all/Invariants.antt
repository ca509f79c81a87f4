use Rattle.std.proofs.Common.{◌≡◌, ◌+◌, ◌-◌, ◌<◌, ◌≤◌, true, false, None}
use Rattle.lane_core.specs.Ends.{taken, empty_answers}
use Rattle.control_half.specs.Half.{IsSameHalf}
use Rattle.control_half.specs.Turns.{Grew, size}
use Rattle.control_half.proofs.inner.ControlInner.apply_all.Given as goal

abbrev pub invariant-loop-self : goal.invariant-loop-self
invariant-loop-self g l = record {
  same : IsSameHalf l.fn.self l.self;
  versions : l.self.versions ≡ l.fn.self.versions;
  came : Grew (taken l.fn.self.commands) (taken l.self.commands);
  noted : Grew l.fn.self.control.notes.items l.self.control.notes.items;
  asked : empty_answers l.self.commands ≡ empty_answers l.fn.self.commands;
  done : l.self.due ≡ None;
  few : l.self.control.number ≤ l.fn.self.control.number + size l.self.batch;
  some : l.applied ≡ true → l.fn.self.control.number < l.self.control.number;
  none : l.applied ≡ false → l.self.control.number ≡ l.fn.self.control.number;
}

abbrev pub decreases-loop-self : goal.decreases-loop-self
decreases-loop-self g l = 16 - size l.self.batch
