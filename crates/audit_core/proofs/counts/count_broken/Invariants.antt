use Rattle.std.proofs.Common.{◌≡◌, ℕ, ◌+◌, ◌≤◌, List, [], take, drop}
use Rattle.lawful_run.specs.LinesTold.{LineTold}
use Rattle.audit_core.specs.Meant.{lines_of, share}
use Rattle.audit_core.specs.OfSlot.{AreAnswered}
use Rattle.audit_core.specs.Bounds.{LiesBetween}
use Rattle.audit_core.specs.Passing.{AreOf, IsPassed}
use Rattle.audit_core.specs.Places.{EachUpTo}
use Rattle.audit_core.proofs.counts.count_broken.Given as goal

abbrev pub invariant-loop-at : goal.invariant-loop-at
invariant-loop-at l = record {
  few : l.passed.commands ≤ l.start + l.at;
  so : (slot : ℕ) → AreOf slot (lines_of l.lines) → IsPassed slot l.start (lines_of l.lines) l.at l.passed;
  each : (slot first : ℕ) (all : List LineTold) → AreAnswered first all → lines_of l.lines ≡ share slot all
      → EachUpTo (LiesBetween slot l.start) [] (take l.at (lines_of l.lines)) (drop l.at (lines_of l.lines));
}
