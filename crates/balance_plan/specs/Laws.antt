-- What steps keep.
use Rattle.std.specs.Prelude.{◌≡◌, ℕ, ◌<◌, ◌≤◌, List}
use Rattle.std.specs.List.{Any}
use Rattle.balance_plan.specs.Loads.{load_of, moved}
use Rattle.balance_plan.specs.declared.load.Load.{Load}
use Rattle.balance_plan.specs.declared.load.Planned.{Planned}

-- the load of each slice is at most this much · at least
abbrev pub AtMost : ℕ → List Load → ℕ → Type 0
AtMost slices loads most = (slice : ℕ) → slice < slices → load_of loads slice ≤ most

abbrev pub AtLeast : ℕ → List Load → ℕ → Type 0
AtLeast slices loads least = (slice : ℕ) → slice < slices → least ≤ load_of loads slice

-- what bounds the loads before a step bounds them behind it
pub record LevelsBy (slices : ℕ) (step : Planned) (loads : List Load) : Type 0 where
  pub greatest : (most : ℕ) → AtMost slices loads most → AtMost slices (moved step loads) most
  pub least : (fewest : ℕ) → AtLeast slices loads fewest → AtLeast slices (moved step loads) fewest

-- a move of a slot of these, to one of so many slices
pub record IsOf (slices : ℕ) (loads : List Load) (step : Planned) : Type 0 where
  pub slot : Any (λ (load : Load). load.slot ≡ step.slot) loads
  pub slice : step.slice < slices
