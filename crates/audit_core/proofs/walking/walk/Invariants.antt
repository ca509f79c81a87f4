use Rattle.std.proofs.Common.{length, take}
use Rattle.lawful_run.specs.Merging.{Histories}
use Rattle.at_rest.specs.Meant.{AreStanding}
use Rattle.audit_core.specs.Meant.{lines_of}
use Rattle.audit_core.specs.Walking.{HasWalked, Walks}
use Rattle.audit_core.proofs.walking.walk.Given as goal

abbrev pub invariant-loop-told : goal.invariant-loop-told
invariant-loop-told l = record {
  walks : Walks l.course (length l.subscribers) (lines_of (take l.told-index l.lines));
  walked_so : (histories : Histories) → AreStanding l.subscribers histories
      → HasWalked l.setup histories (lines_of (take l.told-index l.lines)) l.walked;
}
