-- A plan levels, move after move.
use Rattle.std.proofs.Common.{◌≡◌, ℕ, zero, suc, ◌≤◌, List, [], ◌∷◌, take, None, Some, refl, sym, subst, arith}
use Rattle.std.specs.List.{All}
use Rattle.balance_plan.specs.Laws.{LevelsBy}
use Rattle.balance_plan.specs.Loads.{IsBelow, SlotsRise, moved}
use Rattle.balance_plan.specs.Plan.{plan_of}
use Rattle.balance_plan.specs.Steps.{step_of}
use Rattle.balance_plan.specs.declared.load.Load.{Load}
use Rattle.balance_plan.specs.declared.load.Planned.{Planned}
use Rattle.balance_plan.proofs.Moving.{slots_rise_still, still_below}
use Rattle.balance_plan.proofs.Stepping.{levels, plan_ends, plan_goes_on, plan_of_none, step_is_of}
use Rattle.balance_plan.specs.Levelled.{LevelAll}

no_moves : (slices : ℕ) (loads : List Load) → LevelAll slices [] loads
no_moves slices loads = record { greatest = λ most bound. bound; least = λ fewest bound. bound }

no_slices : (steps : List Planned) (loads : List Load) → LevelAll 0 steps loads
no_slices steps loads = record {
  greatest = λ most bound slice inside. absurd (omega (arith, inside));
  least = λ fewest bound slice inside. absurd (omega (arith, inside));
}

one_move : (slices : ℕ) (step : Planned) (steps : List Planned) (loads : List Load) → LevelsBy slices step loads
    → LevelAll slices steps (moved step loads) → LevelAll slices (step ∷ steps) loads
one_move slices step steps loads first later = record {
  greatest = λ most bound. later.greatest most (first.greatest most bound);
  least = λ fewest bound. later.least fewest (first.least fewest bound);
}

some_moves : (slices most done : ℕ) (loads : List Load) → 1 ≤ slices → SlotsRise loads → All (IsBelow slices) loads
    → LevelAll slices (take done (plan_of slices most loads)) loads
some_moves slices most zero loads some rise below = no_moves slices loads
some_moves slices zero (suc done) loads some rise below =
    subst (λ plan. LevelAll slices (take (suc done) plan) loads) (sym (plan_of_none slices loads)) (no_moves slices loads)
some_moves slices (suc most) (suc done) loads some rise below =
    elim (step_of slices loads) as (λ next. step_of slices loads ≡ next
    → LevelAll slices (take (suc done) (plan_of slices (suc most) loads)) loads) [
      | None ↦ λ is.
          subst (λ plan. LevelAll slices (take (suc done) plan) loads) (sym (plan_ends slices (suc most) loads is))
          (no_moves slices loads)
      | Some step ↦ λ is.
          let to = (step_is_of slices loads step some is).slice in
          subst (λ plan. LevelAll slices (take (suc done) plan) loads) (sym (plan_goes_on slices most loads step is))
          (one_move slices step (take done (plan_of slices most (moved step loads))) loads
          (levels slices loads step rise below is)
          (some_moves slices most done (moved step loads) some (slots_rise_still step loads rise)
          (still_below slices step loads to below)))
    ] refl

pub plan_levels : (slices most done : ℕ) (loads : List Load) → SlotsRise loads → All (IsBelow slices) loads
    → LevelAll slices (take done (plan_of slices most loads)) loads
plan_levels zero most done loads rise below = no_slices (take done (plan_of 0 most loads)) loads
plan_levels (suc slices) most done loads rise below =
    some_moves (suc slices) most done loads (omega arith) rise below
