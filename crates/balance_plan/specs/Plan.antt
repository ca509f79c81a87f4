-- The plan: steps until none is possible, at most so many.
use Rattle.std.specs.Prelude.{ℕ, zero, suc, Option, Some, None, List, [], ◌∷◌}
use Rattle.balance_plan.specs.Loads.{moved}
use Rattle.balance_plan.specs.Steps.{step_of}
use Rattle.balance_plan.specs.declared.load.Load.{Load}
use Rattle.balance_plan.specs.declared.load.Planned.{Planned}

abbrev pub step_then : Option Planned → (Planned → List Planned) → List Planned
step_then None behind = []
step_then (Some step) behind = step ∷ behind step

unfoldable pub plan_of : (slices most : ℕ) → List Load → List Planned
plan_of slices zero loads = []
plan_of slices (suc most) loads =
    step_then (step_of slices loads) (λ step. plan_of slices most (moved step loads))
