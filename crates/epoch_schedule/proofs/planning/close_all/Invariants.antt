use Rattle.std.proofs.Common.{◌≡◌, ◌++◌, length, map, take, drop}
use Rattle.epoch_schedule.specs.Slots.{SlotNow}
use Rattle.epoch_schedule.specs.Halves.{closed}
use Rattle.epoch_schedule.proofs.planning.close_all.Given as goal

abbrev pub invariant-loop-slot : goal.invariant-loop-slot
invariant-loop-slot l = record {
  many : length l.slots.items ≡ length l.fn.slots.items;
  whole : map (λ (slot : SlotNow). slot.met) (take l.slot l.slots.items)
      ++ map (λ (slot : SlotNow). (closed slot).met) (drop l.slot l.slots.items)
      ≡ map (λ (slot : SlotNow). (closed slot).met) l.fn.slots.items;
}
