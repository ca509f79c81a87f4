-- An item was refused.
use Rattle.std.proofs.Common.{◌≡◌, ◌≢◌, ℕ, ◌+◌, ◌*◌, ◌<◌, ◌≤◌, inl, inr, Bool, true, false, is_some, cond, List, [], ◌∷◌, ◌++◌, length, map, get_or, replicate, refl, sym, ap, subst, ◌∙◌, arith, length-append}
use Rattle.std.specs.Prelude.{Option, Some, None, Result, Ok, Err, count_by, OnOk, IfErr}
use Rattle.std.specs.List.{sum_by}
use Rattle.std.specs.Coded.{le_prop}
use Rattle.std.proofs.Math.Logic.{∥∥₁_elim}
use Rattle.std.proofs.lemmas.Bool.{cases_eq, cases_lt}
use Rattle.std.proofs.lemmas.List.{get_or_past, get_or-replicate, length-map, length-replicate}
use Rattle.std.proofs.lemmas.List.Sums.{get_or-le-sum_by}
use Rattle.lane_core.specs.Ends.{sender_lane, full_answers}
use Rattle.worker_core.specs.Workers.{Lanes, desk_lanes}
use Rattle.worker_core.specs.Desks.{lanes_of, order_count, room_at, sent_count, fulls_at}
use Rattle.worker_core.specs.Counts.{Rises}
use Rattle.migration.specs.Places as control_place
use Rattle.worker_core.specs.DataDesks.{DataDesk}
use Rattle.migration.specs.declared.data_place.DataPlace.{DataPlace}
use Rattle.migration.specs.declared.data_place.UnexpectedHalf.{UnexpectedHalf}
use Rattle.migration.specs.declared.data_place.DataNo.{DataNo}
use Rattle.migration.specs.DataWords as datas
use Rattle.migration.specs.DataWords.{MetFull}
use Rattle.migration.specs.DataPlaces as data_place
use Rattle.migration.specs.DataSides.{IsDataSide}
use Rattle.migration.specs.DataStays.{stay_items, since_of}
use Rattle.migration.specs.DataSteps.{AtSlot, Gave, is_full, no_item, asked_after}
use Rattle.front_core.specs.Sides.{Both, view_of, load_of}
use Rattle.front_core.specs.SidesSteps.{ViewSettles, Settles, Received, AreLanes, WasFull}
use Rattle.front_core.proofs.Lists.{same_at, sum_map}
use Rattle.front_core.proofs.SidesSettling.{views_same, place_here, place_other}
use Rattle.front_core.proofs.Giving.{gave_rests, accepted_set, received}

map_map : {X Y Z : Type 0} (f : Y → Z) (g : X → Y) (xs : List X) → map f (map g xs) ≡ map (λ x. f (g x)) xs
map_map f g [] = refl
map_map f g (x ∷ xs) = ap (λ zs. f (g x) ∷ zs) (map_map f g xs)

no_rise : (old new : ℕ) → old ≡ 0 → new ≡ 0 → Rises old new → ⊥
no_rise old new was is (inl less) = omega (arith, was, is, less)
no_rise old new was is (inr most) = omega (arith, is, most)

module _ {F I : Type 0} where
  -- the orders of one slice are some of all
  sent_within : (desks : List (DataDesk F I)) (slice : ℕ) → sent_count desks slice ≤ sum_by order_count desks
  sent_within desks slice = elim (cases_lt slice (length (map order_count desks))) [
    | inl less ↦
        let here = get_or-le-sum_by (λ (n : ℕ). n) (map order_count desks) slice 0 less in
        let all = sum_map (λ (n : ℕ). n) order_count desks in
        omega (arith, here, all)
    | inr most ↦ let none = get_or_past (map order_count desks) slice 0 most in omega (arith, none)
  ]

  -- there is no lane beyond the desks
  fulls_past : (desks : List (DataDesk F I)) (slice : ℕ) → length desks ≤ slice → fulls_at desks slice ≡ 0
  fulls_past desks slice most =
      get_or_past (map (λ (desk : DataDesk F I). full_answers desk.orders) desks) slice 0
      (let count = length-map desks (λ (desk : DataDesk F I). full_answers desk.orders) in omega (arith, count, most))

  -- a lane that was full has room for no more than all orders that were sent
  full_lane : (old new : List (DataDesk F I)) (lane : ℕ)
      → map (λ (lanes : Lanes). lanes.0.room) (lanes_of old)
      ≡ replicate (length (map (λ (lanes : Lanes). lanes.0.room) (lanes_of old))) lane
      → lanes_of new ≡ lanes_of old → MetFull old new → lane ≤ sum_by order_count new
  full_lane old new lane are lanes met =
      let slice : ℕ = met.0 in
      let rooms : List ℕ = map (λ (l : Lanes). l.0.room) (lanes_of old) in
      let same : map (λ (desk : DataDesk F I). (sender_lane desk.orders).room) new ≡ replicate (length rooms) lane =
      sym (map_map (λ (l : Lanes). l.0.room) desk_lanes new) ∙ ap (map (λ (l : Lanes). l.0.room)) lanes ∙ are in
      let long = ap length same ∙ length-replicate (length rooms) lane in
      let count = length-map new (λ (desk : DataDesk F I). (sender_lane desk.orders).room) in
      let desks_count = ap length lanes in
      let new_count = length-map new desk_lanes in
      let old_count = length-map old desk_lanes in
      elim (cases_lt slice (length new)) [
        | inl less ↦
            let within : slice < length rooms = omega (arith, less, long, count) in
            let room : room_at new slice ≡ lane =
            ap (λ xs. get_or xs slice 0) same ∙ get_or-replicate (length rooms) slice lane 0 within in
            let most = met.2 in
            let all = sent_within new slice in
            omega (arith, room, most, all)
        | inr most ↦
            absurd (no_rise (fulls_at old slice) (fulls_at new slice)
            (fulls_past old slice (omega (arith, most, desks_count, new_count, old_count)))
            (fulls_past new slice most) met.1)
      ]

  named : {M : Type 0} (name : F → M) (p : Option (DataPlace F I))
      → is_some (data_place.name_at name p) ≡ data_place.is_admitted p
  named name None = refl
  named name (Some place) = refl

module _ {H F M I : Type 0} (data_name : F → M) (slot_at : M → ℕ) (item_slot : I → ℕ) (handled : F → List I) where
  -- what a side knows of its orders, and of its queues
  few_orders : (both : Both H F I) (aside : List (UnexpectedHalf F)) (room admitted : ℕ)
      → IsDataSide data_name slot_at item_slot handled both.places aside both.desks room admitted both.asked
      → sum_by order_count both.desks + (load_of data_name both).accepted + (load_of data_name both).admitted
      ≤ 2 * both.asked
  few_orders both aside room admitted side =
      let few = side.few in
      let counted = side.counted in
      let accepted = sum_map (λ (items : List I). length items) data_place.accepted_at both.places in
      let names = sum_map (λ (name : Option M). cond (is_some name) 1 0) (data_place.name_at data_name) both.places in
      let same : sum_by (λ (p : Option (DataPlace F I)). cond (is_some (data_place.name_at data_name p)) 1 0) both.places
      ≡ count_by data_place.is_admitted both.places =
      λ i. sum_by (λ (p : Option (DataPlace F I)). cond (named data_name p i) 1 0) both.places in
      omega (arith, few, counted, accepted, names, same)

  queue_within : (both : Both H F I) (aside : List (UnexpectedHalf F)) (room admitted slot : ℕ)
      → IsDataSide data_name slot_at item_slot handled both.places aside both.desks room admitted both.asked
      → length (data_place.queue_at (data_place.place_at both.places slot))
      ≤ length (data_place.accepted_at (data_place.place_at both.places slot))
  queue_within both aside room admitted slot side = ∥∥₁_elim (side.known slot) le_prop (λ tells.
      let all = ap length tells.knows.all in
      let parts = length-append (stay_items tells.stays ++ since_of tells.half)
      (data_place.queue_at (data_place.place_at both.places slot)) in
      omega (arith, all, parts))

module _ {H N F M I : Type 0} (control_name : H → N) (data_name : F → M) (slot_at : M → ℕ) (item_slot : I → ℕ)
    (handled : F → List I) (old new : Both H F I) (slot room : ℕ) (item : I) (refusal : DataNo I)
    (admitted : data_place.is_admitted (data_place.place_at old.places slot) ≡ true)
    (gave : AtSlot (Gave (λ half. slot_at (data_name half)) item_slot handled slot room item (Err refusal)) slot
    old.places new.places old.desks new.desks)
    (names : data_place.names_of data_name new.places ≡ data_place.names_of data_name old.places)
    (lanes : lanes_of new.desks ≡ lanes_of old.desks) (queue : new.queue_room ≡ old.queue_room)
    (asked : new.asked ≡ old.asked) (controls : new.control_places ≡ old.control_places)
    (desks : new.control_desks ≡ old.control_desks) (control_asked : new.control_asked ≡ old.control_asked) where
  here : data_place.place_at new.places slot ≡ gave.0
  here = ap (λ ps. data_place.place_at ps slot) gave.2 ∙ place_here old.places slot gave.0 gave.1

  view_here : ViewSettles (view_of control_name data_name old slot) (view_of control_name data_name new slot)
  view_here = record {
    control = ap (λ ps. control_place.name_at control_name (control_place.place_at ps slot)) controls;
    data_half = same_at (data_place.name_at data_name) old.places new.places slot None names;
    accepted = ap data_place.accepted_at here ∙ gave.3.accepted.0;
    moved = ap data_place.moved_at here ∙ gave.3.moved;
    parks = λ rests.
        ap data_place.parks_at here
        ∙ gave_rests (λ half. slot_at (data_name half)) item_slot handled slot room item (Err refusal)
        (data_place.place_at old.places slot) gave.0 old.desks new.desks admitted gave.3 rests;
  }

  view_other : (other : ℕ) → other ≢ slot
      → ViewSettles (view_of control_name data_name old other) (view_of control_name data_name new other)
  view_other other ne =
      views_same control_name data_name (control_place.place_at old.control_places other)
      (control_place.place_at new.control_places other) (data_place.place_at old.places other)
      (data_place.place_at new.places other) (ap (λ ps. control_place.place_at ps other) controls)
      (ap (λ ps. data_place.place_at ps other) gave.2 ∙ place_other old.places slot other gave.0 ne)

  total : sum_by (λ (items : List I). length items) (datas.accepts_of new.places)
      ≡ sum_by (λ (items : List I). length items) (datas.accepts_of old.places)
  total =
      let same = ap length gave.3.accepted.0 in
      let count : length (data_place.accepted_at gave.0)
      ≡ length (data_place.accepted_at (data_place.place_at old.places slot)) + 0 = omega (arith, same) in
      let more = accepted_set old.places slot gave.0 0 gave.1 count in
      ap (λ ps. sum_by (λ (items : List I). length items) (datas.accepts_of ps)) gave.2 ∙ omega (arith, more)

  pub refused : Settles control_name data_name old new
  refused = record {
    views = λ other. elim (cases_eq other slot) [
      | inl same ↦
          subst (λ k. ViewSettles (view_of control_name data_name old k) (view_of control_name data_name new k))
          (sym same) view_here
      | inr ne ↦ view_other other ne
    ];
    sides = record { control_lanes = ap lanes_of desks; data_lanes = lanes; queues = queue };
    load = λ i. record {
      accepted = total i;
      admitted = count_by (λ (name : Option M). is_some name) (names i);
      asked = asked i;
    };
    asked = control_asked;
  }

  full_by : (aside later : List (UnexpectedHalf F)) (was is later_room lane : ℕ) (parks : Bool)
      → IsDataSide data_name slot_at item_slot handled old.places aside old.desks room was old.asked
      → IsDataSide data_name slot_at item_slot handled new.places later new.desks later_room is new.asked
      → data_place.parks_at (data_place.place_at old.places slot) ≡ parks → is_full refusal ≡ true
      → old.queue_room ≡ room
      → (data_place.parks_at (data_place.place_at old.places slot) ≡ false → MetFull old.desks new.desks)
      → AreLanes lane old → WasFull control_name data_name slot lane old new
  full_by aside later was is later_room lane true before after parks full rooms met are =
      let most = (gave.3.parked parks).1.2 full in
      let queued = queue_within data_name slot_at item_slot handled old aside room was slot before in
      inr (parks, omega (arith, most, queued, rooms))
  full_by aside later was is later_room lane false before after parks full rooms met are =
      inl (record {
        orders = sum_by order_count new.desks;
        full = full_lane old.desks new.desks lane are lanes (met parks);
        few = few_orders data_name slot_at item_slot handled new later later_room is after;
      })

  pub was_full : (aside later : List (UnexpectedHalf F)) (was is later_room lane : ℕ)
      → IsDataSide data_name slot_at item_slot handled old.places aside old.desks room was old.asked
      → IsDataSide data_name slot_at item_slot handled new.places later new.desks later_room is new.asked
      → is_full refusal ≡ true → old.queue_room ≡ room
      → (data_place.parks_at (data_place.place_at old.places slot) ≡ false → MetFull old.desks new.desks)
      → AreLanes lane old → WasFull control_name data_name slot lane old new
  was_full aside later was is later_room lane before after full rooms met are =
      full_by aside later was is later_room lane (data_place.parks_at (data_place.place_at old.places slot)) before after refl full
      rooms met are

-- what an answer of a refused item comes to
module _ {H N F M I : Type 0} (control_name : H → N) (data_name : F → M) (slot_at : M → ℕ) (item_slot : I → ℕ)
    (handled : F → List I) (old new : Both H F I) (slot room : ℕ) (item : I)
    (admitted : data_place.is_admitted (data_place.place_at old.places slot) ≡ true)
    (names : data_place.names_of data_name new.places ≡ data_place.names_of data_name old.places)
    (lanes : lanes_of new.desks ≡ lanes_of old.desks) (queue : new.queue_room ≡ old.queue_room)
    (controls : new.control_places ≡ old.control_places) (desks : new.control_desks ≡ old.control_desks)
    (control_asked : new.control_asked ≡ old.control_asked) where
  abbrev GaveAt : Result Bool (DataNo I) → Type 0
  GaveAt answer = AtSlot (Gave (λ half. slot_at (data_name half)) item_slot handled slot room item answer) slot
      old.places new.places old.desks new.desks

  pub given : (answer : Result Bool (DataNo I)) → GaveAt answer → new.asked ≡ asked_after answer old.asked
      → OnOk answer (Received control_name data_name slot item old new)
  given (Ok told) gave asked =
      received control_name data_name (λ half. slot_at (data_name half)) item_slot handled old new slot room item told
      admitted gave names lanes queue asked controls desks control_asked
  given (Err refusal) gave asked = tt

  pub came_back : (answer : Result Bool (DataNo I)) → GaveAt answer → new.asked ≡ asked_after answer old.asked
      → IfErr answer (λ refusal. (no_item refusal ≡ item) × Settles control_name data_name old new)
  came_back (Ok u) gave asked = tt
  came_back (Err refusal) gave asked = (
    gave.3.accepted.1,
    refused control_name data_name slot_at item_slot handled old new slot room item refusal admitted gave names lanes
        queue asked controls desks control_asked,
  )

  pub found_full : (aside later : List (UnexpectedHalf F)) (was is later_room lane : ℕ)
      → IsDataSide data_name slot_at item_slot handled old.places aside old.desks room was old.asked
      → IsDataSide data_name slot_at item_slot handled new.places later new.desks later_room is new.asked
      → old.queue_room ≡ room → AreLanes lane old
      → (answer : Result Bool (DataNo I)) → GaveAt answer → new.asked ≡ asked_after answer old.asked
      → IfErr answer (λ refusal. data_place.parks_at (data_place.place_at old.places slot) ≡ false
      → MetFull old.desks new.desks)
      → IfErr answer (λ refusal. is_full refusal ≡ true → WasFull control_name data_name slot lane old new)
  found_full aside later was is later_room lane before after rooms are (Ok u) gave asked met = tt
  found_full aside later was is later_room lane before after rooms are (Err refusal) gave asked met = λ full.
      was_full control_name data_name slot_at item_slot handled old new slot room item refusal admitted gave names lanes
      queue asked controls desks control_asked aside later was is later_room lane before after full rooms met are
