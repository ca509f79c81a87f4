use Rattle.std.proofs.Common.{◌≡◌, ◌-◌, length}
use Rattle.std.specs.List.{AllByRecursion}
use Rattle.record_codec.specs.Saved.{all_saved, IsResting}
use Rattle.record_codec.specs.Read.{subscribers_at}
use Rattle.record_codec.proofs.Loops.{with_prefix}
use Rattle.record_codec.proofs.subscribers.subscribers_at.Given as goal

abbrev pub invariant-loop-slot : goal.invariant-loop-slot
invariant-loop-slot l = record {
  read : with_prefix (all_saved l.imsis.items l.subscribers.items)
      (subscribers_at l.moment l.slot (l.count - l.slot) l.input.rest.now)
      ≡ subscribers_at l.moment 0 l.count l.fn.input.rest.now;
  imsis : length l.imsis.items ≡ l.slot;
  each : length l.subscribers.items ≡ l.slot;
  resting : AllByRecursion IsResting l.subscribers.items;
}
