use Rattle.std.proofs.Common.{◌≡◌, ◌++◌, flat_map, take}
use Rattle.bearer_state.specs.declared.version.ActiveBearer.{ActiveBearer}
use Rattle.audit_core.specs.Opens.{open_for}
use Rattle.audit_core.proofs.opens.push_lives.Given as goal

abbrev pub invariant-loop-bearer : goal.invariant-loop-bearer
invariant-loop-bearer l = l.all.items ≡ l.initial.all.items
    ++ flat_map (λ (bearer : ActiveBearer). open_for l.slot l.counted bearer.life) (take l.bearer-index l.bearers)
