-- What slices carry behind planned moves.
use Rattle.std.specs.Prelude.{ℕ, List, fold}
use Rattle.balance_plan.specs.Laws.{AtLeast, AtMost}
use Rattle.balance_plan.specs.Loads.{moved}
use Rattle.balance_plan.specs.declared.load.Load.{Load}
use Rattle.balance_plan.specs.declared.load.Planned.{Planned}

-- the loads where slots have gone, one after another
abbrev pub moved_all : List Planned → List Load → List Load
moved_all steps loads = fold (λ (so_far : List Load) (step : Planned). moved step so_far) loads steps

-- what bounds the loads of all slices before these moves bounds them behind the last
pub record LevelAll (slices : ℕ) (steps : List Planned) (loads : List Load) : Type 0 where
  pub greatest : (most : ℕ) → AtMost slices loads most → AtMost slices (moved_all steps loads) most
  pub least : (fewest : ℕ) → AtLeast slices loads fewest → AtLeast slices (moved_all steps loads) fewest
