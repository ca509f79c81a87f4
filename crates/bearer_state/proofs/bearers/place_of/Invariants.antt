use Rattle.std.proofs.Common.{◌≡◌, ◌++◌, take, drop}
use Rattle.bearer_state.specs.declared.bearer.Bearer.{Bearer}
use Rattle.bearer_state.specs.Bearer.{index_of}
use Rattle.bearer_state.specs.Changes.{placed}
use Rattle.bearer_state.proofs.bearers.place_of.Given as goal

abbrev pub invariant-loop-at : goal.invariant-loop-at
invariant-loop-at l = (bearer : Bearer) → index_of bearer ≡ l.index
    → placed bearer l.bearers ≡ take l.at l.bearers ++ placed bearer (drop l.at l.bearers)
