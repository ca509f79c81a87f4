use Rattle.std.proofs.Common.{◌≡◌, ◌++◌, flat_map}
use Rattle.counter_half.specs.Tells.{effect_entries}
use Rattle.slot_execution.specs.Replaying.{effects_told}
use Rattle.front_core.proofs.told.add_effects.Given as goal

abbrev pub invariant-loop-done : goal.invariant-loop-done
invariant-loop-done l = record {
  told : effects_told l.all.items ≡ effects_told l.fn.all.items ++ flat_map (effect_entries l.slot) l.yielded;
  all : l.fn.effects.items ≡ l.yielded ++ l.done-iterator.rest.items;
}
