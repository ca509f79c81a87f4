use Rattle.std.proofs.Common.{◌≡◌, ◌++◌, map, take}
use Rattle.lawful_run.specs.Outcomes.{effect_entry}
use Rattle.audit_core.specs.Dues.{effects_lent}
use Rattle.audit_core.proofs.due_entries.push_caused.Given as goal

abbrev pub invariant-loop-effect : goal.invariant-loop-effect
invariant-loop-effect l = effects_lent l.all.items ≡ effects_lent l.initial.all.items
    ++ map (effect_entry l.caused.slot l.caused.command) (take l.effect-index l.effects)
