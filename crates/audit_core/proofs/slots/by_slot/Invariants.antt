use Rattle.std.proofs.Common.{take}
use Rattle.std.specs.List.{All}
use Rattle.audit_core.specs.Meant.{StandsTold}
use Rattle.audit_core.proofs.KeyLemmas.{KeyedBySlot, StandUnder}
use Rattle.audit_core.proofs.slots.by_slot.Given as goal

abbrev pub invariant-loop-told : goal.invariant-loop-told
invariant-loop-told l = record {
  by_slot : KeyedBySlot l.keyed.items (take l.told-index l.lines);
  stand : All StandsTold l.lines → StandUnder l.keyed.items;
}
