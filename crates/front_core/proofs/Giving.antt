-- An item was accepted.
use Rattle.std.proofs.Common.{◌≡◌, ℕ, ◌+◌, ◌<◌, inl, inr, true, false, true≢false, is_some, List, [], ◌∷◌, length, set, refl, sym, ap, ◌∙◌, arith, length-append}
use Rattle.std.specs.Prelude.{◌&&◌, ◌||◌, ◌++◌, Bool, not, nat_eq, Option, Some, None, Result, Ok, count_by}
use Rattle.std.specs.List.{sum_by}
use Rattle.std.proofs.lemmas.Bool.{ne_eqb}
use Rattle.std.proofs.lemmas.List.Sums.{sum_by-set}
use Rattle.worker_core.specs.Desks.{lanes_of}
use Rattle.migration.specs.Places as control_place
use Rattle.worker_core.specs.DataDesks.{DataDesk}
use Rattle.migration.specs.declared.data_place.DataPlace.{DataPlace}
use Rattle.migration.specs.declared.data_place.DataState.{DataState}
use Rattle.migration.specs.declared.data_place.DataState.TheVariants.{Front, Placed, Recall, Leaving}
use Rattle.migration.specs.declared.data_place.DataNo.{DataNo}
use Rattle.migration.specs.DataWords as datas
use Rattle.migration.specs.DataPlaces as data_place
use Rattle.migration.specs.DataPumps.{Pumps}
use Rattle.migration.specs.DataSteps.{AtSlot, Gave, Serves, DeliversPlace}
use Rattle.migration.proofs.DataQueues.{rests_at}
use Rattle.front_core.specs.Sides.{Both}
use Rattle.front_core.specs.SidesSteps.{Received}
use Rattle.front_core.proofs.SidesAdmitting.{parks_moved}
use Rattle.front_core.proofs.Lists.{same_at, sum_map}
use Rattle.front_core.proofs.SidesSettling.{views_same, place_here, place_other}

module _ {F I : Type 0} where
  -- the order that a state waits to give is one that pumping might give
  serves_pumps : (slot : ℕ) (old new : DataState F) (desks now : List (DataDesk F I)) → Serves slot old new desks now
      → Pumps old new
  serves_pumps slot (Front half to) new desks now serves = elim serves [
    | inl put ↦ inr put.0
    | inr kept ↦ inl kept.0
  ]
  serves_pumps slot (Placed at) new desks now serves = serves.0
  serves_pumps slot (Recall at to) new desks now serves = elim serves [
    | inl put ↦ inr put.0
    | inr kept ↦ inl kept.0
  ]
  serves_pumps slot (Leaving from to) new desks now serves = inl serves.0

  -- a slot whose items aren't parked, when one was delivered or refused
  delivered_rests : (slot : ℕ) (item : I) (answer : Result Bool (DataNo I)) (old new : Option (DataPlace F I))
      (desks now : List (DataDesk F I)) → data_place.is_admitted old ≡ true
      → data_place.moved_at new ≡ data_place.moved_at old → data_place.queue_at new ≡ data_place.queue_at old
      → DeliversPlace slot item answer old new desks now → data_place.parks_at old ≡ false
      → data_place.parks_at new ≡ false
  delivered_rests slot item answer None new desks now admitted moved queue delivers rests =
      absurd (true≢false (sym admitted))
  delivered_rests slot item answer (Some before) new desks now admitted moved queue delivers rests =
      rests_at (Some before) new moved (
        delivers.0.state,
        ap data_place.state_at delivers.1,
        serves_pumps slot before.state delivers.0.state desks delivers.2.mid delivers.2.serves,
      )
      ([], sym queue) rests

  pub gave_rests : (slot_of : F → ℕ) (item_slot : I → ℕ) (handled : F → List I) (slot room : ℕ) (item : I)
      (answer : Result Bool (DataNo I)) (old new : Option (DataPlace F I)) (desks now : List (DataDesk F I))
      → data_place.is_admitted old ≡ true → Gave slot_of item_slot handled slot room item answer old new desks now
      → data_place.parks_at old ≡ false → data_place.parks_at new ≡ false
  gave_rests slot_of item_slot handled slot room item answer old new desks now admitted gave rests =
      let placed = gave.placed rests in
      delivered_rests slot item answer old new desks now admitted gave.moved placed.0 placed.1 rests

  -- a slot whose items are parked, when one went into its queue
  queued_parks : (item : I) (a : DataPlace F I) (new : Option (DataPlace F I)) → data_place.moved_at new ≡ a.moved
      → data_place.queue_at new ≡ a.queue.items ++ item ∷ [] → data_place.parks_at (Some a) ≡ true
      → data_place.parks_at new ≡ true
  queued_parks item a None moved queue parks = absurd (true≢false (sym (moved ∙ parks_moved a parks)))
  queued_parks item a (Some b) moved queue parks =
      let count = ap length queue ∙ length-append a.queue.items (item ∷ []) in
      let some : nat_eq (length b.queue.items) 0 ≡ false =
      ne_eqb (length b.queue.items) 0 (λ none. absurd (omega (arith, count, none))) in
      ap (λ m. m && (not (data_place.is_placed b.state) || not (nat_eq (length b.queue.items) 0)))
      (moved ∙ parks_moved a parks)
      ∙ ap (λ n. not (data_place.is_placed b.state) || not n) some ∙ or_true (not (data_place.is_placed b.state))
    where
      or_true : (p : Bool) → (p || true) ≡ true
      or_true true = refl
      or_true false = refl

  -- where an item was accepted, it is parked as before
  gave_same : (slot_of : F → ℕ) (item_slot : I → ℕ) (handled : F → List I) (slot room : ℕ) (item : I)
      (told : Bool) (old new : Option (DataPlace F I)) (desks now : List (DataDesk F I))
      → data_place.is_admitted old ≡ true → Gave slot_of item_slot handled slot room item (Ok told) old new desks now
      → data_place.parks_at new ≡ data_place.parks_at old
  gave_same slot_of item_slot handled slot room item told None new desks now admitted gave =
      absurd (true≢false (sym admitted))
  gave_same slot_of item_slot handled slot room item told (Some a) new desks now admitted gave =
      elim (data_place.parks_at (Some a)) as (λ b. data_place.parks_at (Some a) ≡ b
      → data_place.parks_at new ≡ b) [
        | true ↦ λ parks. queued_parks item a new gave.moved (gave.parked parks).1.0 parks
        | false ↦ λ rests. gave_rests slot_of item_slot handled slot room item (Ok told) (Some a) new desks now
            admitted gave rests
      ] refl

  -- sums of what was accepted
  pub accepted_set : (ps : List (Option (DataPlace F I))) (slot : ℕ) (place : Option (DataPlace F I)) (more : ℕ)
      → slot < length ps
      → length (data_place.accepted_at place) ≡ length (data_place.accepted_at (data_place.place_at ps slot)) + more
      → sum_by (λ (items : List I). length items) (datas.accepts_of (set ps slot place))
      ≡ sum_by (λ (items : List I). length items) (datas.accepts_of ps) + more
  accepted_set ps slot place more low count =
      let new = sum_map (λ (items : List I). length items) data_place.accepted_at (set ps slot place) in
      let old = sum_map (λ (items : List I). length items) data_place.accepted_at ps in
      let parts = sum_by-set (λ (p : Option (DataPlace F I)). length (data_place.accepted_at p)) ps slot place None low
      in
      omega (arith, new, old, parts, count)

module _ {H N F M I : Type 0} (control_name : H → N) (data_name : F → M) (slot_of : F → ℕ) (item_slot : I → ℕ)
    (handled : F → List I) where
  pub received : (old new : Both H F I) (slot room : ℕ) (item : I) (told : Bool)
      → data_place.is_admitted (data_place.place_at old.places slot) ≡ true
      → AtSlot (Gave slot_of item_slot handled slot room item (Ok told)) slot old.places new.places old.desks new.desks
      → data_place.names_of data_name new.places ≡ data_place.names_of data_name old.places
      → lanes_of new.desks ≡ lanes_of old.desks → new.queue_room ≡ old.queue_room → new.asked ≡ old.asked + 1
      → new.control_places ≡ old.control_places → new.control_desks ≡ old.control_desks
      → new.control_asked ≡ old.control_asked
      → Received control_name data_name slot item old new
  received old new slot room item told admitted gave names lanes queue asked controls desks control_asked =
      let place : Option (DataPlace F I) = gave.0 in
      let here : data_place.place_at new.places slot ≡ place =
      ap (λ ps. data_place.place_at ps slot) gave.2 ∙ place_here old.places slot place gave.1 in
      let count : length (data_place.accepted_at place)
      ≡ length (data_place.accepted_at (data_place.place_at old.places slot)) + 1 =
      ap length gave.3.accepted
      ∙ length-append (data_place.accepted_at (data_place.place_at old.places slot)) (item ∷ []) in
      record {
        others = λ other ne.
            views_same control_name data_name (control_place.place_at old.control_places other)
            (control_place.place_at new.control_places other) (data_place.place_at old.places other)
            (data_place.place_at new.places other) (ap (λ ps. control_place.place_at ps other) controls)
            (ap (λ ps. data_place.place_at ps other) gave.2 ∙ place_other old.places slot other place ne);
        sides = record { control_lanes = ap lanes_of desks; data_lanes = lanes; queues = queue };
        control = ap (λ ps. control_place.name_at control_name (control_place.place_at ps slot)) controls;
        data_half = same_at (data_place.name_at data_name) old.places new.places slot None names;
        moved = ap data_place.moved_at here ∙ gave.3.moved;
        accepted = ap data_place.accepted_at here ∙ gave.3.accepted;
        parks = ap data_place.parks_at here
            ∙ gave_same slot_of item_slot handled slot room item told (data_place.place_at old.places slot) place
            old.desks new.desks admitted gave.3;
        load_accepted = ap (λ ps. sum_by (λ (items : List I). length items) (datas.accepts_of ps)) gave.2
            ∙ accepted_set old.places slot place 1 gave.1 count;
        load_admitted = ap (count_by (λ (name : Option M). is_some name)) names;
        load_asked = asked;
        asked = control_asked;
      }
