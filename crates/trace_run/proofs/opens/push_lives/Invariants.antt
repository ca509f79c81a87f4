use Rattle.std.proofs.Common.{◌≡◌, ◌++◌, Bool, flat_map, take}
use Rattle.bearer_state.specs.declared.version.ActiveBearer.{ActiveBearer}
use Rattle.trace_run.specs.Entries.{charges_text, open_for}
use Rattle.trace_run.proofs.opens.push_lives.Given as goal

abbrev pub invariant-loop-bearer : goal.invariant-loop-bearer
invariant-loop-bearer l = (places : Bool) → l.report ≡ l.initial.report ++ charges_text places
    (flat_map (λ (bearer : ActiveBearer). open_for l.slot l.counted bearer.life) (take l.bearer-index l.bearers))
