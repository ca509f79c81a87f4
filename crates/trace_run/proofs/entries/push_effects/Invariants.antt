use Rattle.std.proofs.Common.{◌≡◌, ◌++◌, Bool, take}
use Rattle.slot_execution.specs.Replaying.{effects_told}
use Rattle.trace_run.specs.Entries.{effects_text}
use Rattle.trace_run.proofs.entries.push_effects.Given as goal

abbrev pub invariant-loop-caused : goal.invariant-loop-caused
invariant-loop-caused l =
    (places : Bool) → l.report ≡ l.initial.report ++ effects_text places (effects_told (take l.caused-index l.effects))
