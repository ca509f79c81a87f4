use Rattle.std.proofs.Common.{◌≡◌, ◌++◌, take, drop, map}
use Rattle.bearer_state.specs.Changes.{rebound_bearer}
use Rattle.bearer_state.proofs.bearers.rebind.Given as goal

abbrev pub invariant-loop-bearer : goal.invariant-loop-bearer
invariant-loop-bearer l = l.bearers ≡ map (rebound_bearer l.asks) (take l.bearer-index l.initial.bearers)
    ++ drop l.bearer-index l.initial.bearers
