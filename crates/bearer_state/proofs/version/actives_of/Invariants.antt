use Rattle.std.proofs.Common.{◌≡◌, take}
use Rattle.bearer_state.specs.Version.{actives}
use Rattle.bearer_state.proofs.version.actives_of.Given as goal

abbrev pub invariant-loop-bearer : goal.invariant-loop-bearer
invariant-loop-bearer l = l.list.items ≡ actives (take l.bearer-index l.bearers)
