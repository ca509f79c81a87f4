-- A place that nothing waits at stays as it is, and the desks too.
use Rattle.std.proofs.Common.{◌≡◌, ℕ, ◌<◌, false, true≢false, not, List, [], ◌∷◌, length}
use Rattle.std.proofs.Common.{refl, sym, ap, ◌∙◌, arith, is_some}
use Rattle.std.specs.Prelude.{Option, Some, None, nat_eq, ◌&&◌}
use Rattle.std.proofs.lemmas.List.{set-get_or}
use Rattle.std.proofs.lemmas.Bool.{ne_eqb}
use Rattle.worker_core.specs.DataDesks.{DataDesk}
use Rattle.migration.specs.declared.data_place.DataPlace.{DataPlace}
use Rattle.migration.specs.declared.data_place.DataState.{DataState}
use Rattle.migration.specs.declared.data_place.DataState.TheVariants.{Front, Placed, Recall, Leaving}
use Rattle.migration.specs.DataPlaces.{is_placed, is_draining, place_at, waits_for, waits_at}
use Rattle.migration.specs.DataKeeps.{IsReady}
use Rattle.migration.specs.DataSteps.{Serves, EmptiesPlaced, Served, Drained, AtSlot}
use Rattle.migration.proofs.DataShortened.{shortens_same}
use Rattle.migration.proofs.DataTables.{keeps_same, served_place, drained_place, drained_none}

module _ {H I : Type 0} (slot : H → ℕ) (item_slot : I → ℕ) (handled : H → List I) (s : ℕ)
    (desks : List (DataDesk H I)) where
  serves_none : (state : DataState H) → is_some (waits_for state) ≡ false → Serves s state state desks desks
  serves_none (Front half to) none = absurd (true≢false none)
  serves_none (Placed at) none = (refl, refl)
  serves_none (Recall at to) none = absurd (true≢false none)
  serves_none (Leaving from to) none = (refl, refl)

  served_none : (place : Option (DataPlace H I)) → IsReady slot item_slot s place desks
      → is_some (waits_at place) ≡ false → Served slot item_slot handled s place place desks desks
  served_none None ready none = record {
    keeps = (refl, refl);
    fits = λ room fits. fits;
    accepted = refl;
    moved = refl;
    queue = refl;
    again = λ slice waits. absurd (let no : ⊥ = cc in no);
    sends = tt;
  }
  served_none (Some place) ready none = served_place slot item_slot handled s place place desks desks ready refl refl
      refl refl (serves_none place.state none)

  empties_none : (state : DataState H) (queue : List I) → (is_placed state && not (nat_eq (length queue) 0)) ≡ false
      → EmptiesPlaced slot item_slot handled s state queue queue desks desks
  empties_none (Front half to) queue none = (refl, refl)
  empties_none (Placed at) [] none = record {
    keeps = λ accepted. keeps_same slot item_slot handled s _ _ refl;
    short = omega arith;
    sends = shortens_same [] [] refl;
    again = λ some. absurd (let no : ⊥ = omega arith in no);
  }
  empties_none (Placed at) (x ∷ xs) none =
      absurd (true≢false (sym (ap not (ne_eqb (length (x ∷ xs)) 0 (λ e. absurd (omega arith)))) ∙ none))
  empties_none (Recall at to) queue none = (refl, refl)
  empties_none (Leaving from to) queue none = (refl, refl)

  drained_rest : (place : Option (DataPlace H I)) → IsReady slot item_slot s place desks
      → is_draining place ≡ false → Drained slot item_slot handled s place place desks desks
  drained_rest None ready none = drained_none slot item_slot handled s desks
  drained_rest (Some place) ready none = drained_place slot item_slot handled s place place desks desks ready refl refl
      refl refl (empties_none place.state place.queue.items none)

  -- where no order waits, none is offered
  pub served_same : (places : List (Option (DataPlace H I))) → s < length places
      → IsReady slot item_slot s (place_at places s) desks → is_some (waits_at (place_at places s)) ≡ false
      → AtSlot (Served slot item_slot handled s) s places places desks desks
  served_same places within ready none = (
    place_at places s,
    within,
    sym (set-get_or places s None),
    served_none (place_at places s) ready none,
  )

  -- where no items wait for a half that is placed, none is sent
  pub drained_same : (places : List (Option (DataPlace H I))) → s < length places
      → IsReady slot item_slot s (place_at places s) desks → is_draining (place_at places s) ≡ false
      → AtSlot (Drained slot item_slot handled s) s places places desks desks
  drained_same places within ready none = (
    place_at places s,
    within,
    sym (set-get_or places s None),
    drained_rest (place_at places s) ready none,
  )
