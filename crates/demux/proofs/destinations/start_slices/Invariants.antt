use Rattle.std.proofs.Common.{◌≡◌, ℕ, ◌<◌, length, get_or}
use Rattle.demux.specs.Destinations.{start_slice}
use Rattle.demux.proofs.destinations.start_slices.Given as goal

abbrev pub invariant-loop-slot : goal.invariant-loop-slot
invariant-loop-slot l = record {
  count : length l.bound.items ≡ l.slot;
  each : (at : ℕ) → at < l.slot → get_or l.bound.items at 0 ≡ start_slice l.slices at;
}
