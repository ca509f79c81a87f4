use Rattle.std.proofs.Common.{◌≡◌, take}
use Rattle.bearer_state.specs.Version.{rows_of}
use Rattle.bearer_state.proofs.version.rows_of.Given as goal

abbrev pub invariant-loop-bearer : goal.invariant-loop-bearer
invariant-loop-bearer l = l.list.items ≡ rows_of (take l.bearer-index l.bearers)
