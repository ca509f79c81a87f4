use Rattle.std.proofs.Common.{◌≡◌, ◌++◌, Bool, map, take}
use Rattle.lawful_run.specs.Outcomes.{effect_entry}
use Rattle.trace_run.specs.Entries.{effects_text}
use Rattle.trace_run.proofs.entries.push_caused.Given as goal

abbrev pub invariant-loop-effect : goal.invariant-loop-effect
invariant-loop-effect l = (places : Bool) → l.report ≡ l.initial.report
    ++ effects_text places (map (effect_entry l.caused.slot l.caused.command) (take l.effect-index l.caused.effects))
