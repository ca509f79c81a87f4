use Rattle.std.proofs.Common.{◌≡◌, ℕ, ◌≤◌, List, length, take, drop}
use Rattle.gate_model.specs.declared.event.Event.{Event}
use Rattle.subscriber.specs.Standing.{Represents}
use Rattle.slot_execution.specs.Replaying.{AreLate, AreShort, Plays, counts_in, counts_of, latest_of, moment_of, placed_so, places_in, places_of}
use Rattle.lawful_run.proofs.EventByEvent.{GoesAt}
use Rattle.slot_execution.proofs.executing.replay.Given as goal

abbrev pub invariant-loop-placed : goal.invariant-loop-placed
invariant-loop-placed l = record {
  within : l.from ≤ length l.commands;
  goes : (slot : ℕ) (before : List Event) → Represents l.fn.subscriber slot before
      → GoesAt placed_so l.commands l.packets before (Plays l.subscriber l.replayed slot before) l.done l.from
      l.placed-index;
  late : AreLate (moment_of l.subscriber) (drop l.placed-index l.packets);
  last : latest_of (moment_of l.subscriber) (drop l.placed-index l.packets)
      ≡ latest_of (moment_of l.fn.subscriber) l.packets;
  counts : counts_in l.replayed.packets.items ≡ counts_of (take l.placed-index l.packets);
  places : places_in l.replayed.packets.items ≡ places_of (take l.placed-index l.packets);
  short : AreShort l.replayed.packets.items;
  destination : l.subscriber.destination ≡ l.fn.subscriber.destination;
}
