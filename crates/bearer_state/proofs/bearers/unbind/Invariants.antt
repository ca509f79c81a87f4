use Rattle.std.proofs.Common.{◌≡◌, ◌++◌, take, drop, map}
use Rattle.bearer_state.specs.Changes.{unbound}
use Rattle.bearer_state.proofs.bearers.unbind.Given as goal

abbrev pub invariant-loop-bearer : goal.invariant-loop-bearer
invariant-loop-bearer l =
    l.bearers ≡ map unbound (take l.bearer-index l.initial.bearers) ++ drop l.bearer-index l.initial.bearers
