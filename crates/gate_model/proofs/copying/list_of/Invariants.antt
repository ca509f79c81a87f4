use Rattle.std.proofs.Common.{◌≡◌, take}
use Rattle.gate_model.proofs.copying.list_of.Given as goal

abbrev pub invariant-loop-bearer : goal.invariant-loop-bearer
invariant-loop-bearer l = l.list.items ≡ take l.bearer-index l.bearers
