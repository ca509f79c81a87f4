-- What one step leaves of the facts that a side keeps.
use Rattle.std.proofs.Common.{◌≡◌, ◌≢◌, ℕ, zero, suc, ◌+◌, ◌*◌, ◌^◌, ◌<◌, ◌≤◌, Bool, true, false, true≢false, cond}
use Rattle.std.proofs.Common.{inl, List, [], ◌∷◌, ◌++◌, length, map, set, get_or, replicate, refl, sym, ap, ◌∙◌}
use Rattle.std.proofs.Common.{subst, arith}
use Rattle.std.specs.Prelude.{nat_lt, Option, Some, None}
use Rattle.std.specs.List.{sum_by, All}
use Rattle.std.proofs.Math.Logic.{∥∥₁_map, ∥∥₁_elim}
use Rattle.std.proofs.Props.{props}
use Rattle.std.proofs.lemmas.List.{length-set, get_or_past, get_or-set_same, get_or-set_other}
use Rattle.std.proofs.lemmas.List.Elements.{All-nil, All-get_or, All-set, All-append, All-replicate, All-cons}
use Rattle.std.proofs.lemmas.List.Elements.{All-weaker, All-head, All-tail}
use Rattle.std.proofs.lemmas.List.Sums.{sum_by-append, sum_by-set, sum_by-cons, get_or-le-sum_by}
use Rattle.std.proofs.lemmas.List.Folds.{sum_by-replicate}
use borrow.Author.Tests.{ltb-true, ltb-false}
use Rattle.lane_core.specs.Ends.{sent, taken}
use Rattle.worker_core.proofs.Arrivals.{sum_by-through}
use Rattle.worker_core.specs.DataDesks.{DataDesk}
use Rattle.worker_core.specs.declared.data_order.DataOrder.{DataOrder}
use Rattle.worker_core.specs.Workers.{IsNewDesk}
use Rattle.worker_core.specs.DataOrders.{halves_in, now_of, gone_of}
use Rattle.worker_core.specs.Counts.{Lasts}
use Rattle.worker_core.specs.DataPicks.{lists_of}
use Rattle.migration.specs.declared.data_place.DataPlace.{DataPlace}
use Rattle.migration.specs.declared.data_place.DataState.{DataState}
use Rattle.migration.specs.declared.data_place.DataState.TheVariants.{Front, Placed, Recall, Leaving}
use Rattle.migration.specs.declared.data_place.UnexpectedHalf.{UnexpectedHalf}
use Rattle.migration.specs.DataDesks.{sent_weight, home_weight}
use Rattle.worker_core.specs.Desks.{lanes_of, homes_of, sent_at, home_at, order_count, fulls_at}
use Rattle.migration.specs.DataPlaces.{place_at, accepted_at, accepted_by, accepted_count, queue_at, is_admitted}
use Rattle.migration.specs.DataPlaces.{pending, pending_at, front_weight, front_at, is_settled, Fits, at_end, to_end}
use Rattle.migration.specs.DataPlaces.{name_at, names_of}
use Rattle.migration.specs.DataStays.{Where, AtFront, now_at, Owned, SlotKnows}
use Rattle.migration.specs.DataKeeps.{stand_of, StateIs, Keeps, PlaceKeeps, MayGive, MayGiveAt, IsReady}
use Rattle.migration.specs.DataSides.{weight_at, asides_of, Tells, slot_at_place, BySlot, IsDataSide}
use Rattle.worker_core.specs.BySlot.{Grown}
use Rattle.migration.specs.DataWords.{Enters}
use Rattle.worker_core.proofs.AtDesks.{homes_sum}
use Rattle.migration.proofs.DataSlots.{by_index, knows_same, knows_nothing, stands_none, stands_here}

-- an index of mapped items, where the default is mapped too
pub index_map : {X Y : Type 0} (f : X → Y) (xs : List X) (k : ℕ) (d : X)
    → get_or (map f xs) k (f d) ≡ f (get_or xs k d)
index_map f [] k d = refl
index_map f (x ∷ xs) zero d = refl
index_map f (x ∷ xs) (suc k) d = index_map f xs k d

-- an index within a list has no use for a default
pub same_default : {X : Type 0} (xs : List X) (k : ℕ) (d e : X) → k < length xs → get_or xs k d ≡ get_or xs k e
same_default [] k d e within = absurd (omega arith)
same_default (x ∷ xs) zero d e within = refl
same_default (x ∷ xs) (suc k) d e within = same_default xs k d e (omega arith)

-- what a step at the place of a slot says of all facts
pub record PlaceStep {H N I : Type 0} (name : H → N) (slot : H → ℕ) (item_slot : I → ℕ) (handled : H
    → List I) (s spare : ℕ) (old new : Option (DataPlace H I))
    (desks now : List (DataDesk H I)) : Type 0 where
  pub lanes : lanes_of now ≡ lanes_of desks
  pub ends : homes_of now ≡ homes_of desks
  pub homes : (d : ℕ) → home_at now d ≡ home_at desks d
  pub long : length now ≡ length desks
  pub named : name_at name new ≡ name_at name old
  pub admitted : is_admitted new ≡ is_admitted old
  pub weight : (h : H → ℕ) → front_at h new + sum_by (sent_weight h) now ≡ front_at h old + sum_by (sent_weight h)
      desks
  pub orders : sum_by order_count now + pending_at new + accepted_count old ≤ sum_by order_count desks + pending_at
      old + accepted_count new + spare
  pub fulls : (d : ℕ) → Lasts (fulls_at desks d) (fulls_at now d)
  pub nows : (t : ℕ) → t ≢ s → (d : ℕ) → now_of slot item_slot handled t (sent_at now d) ≡ now_of slot item_slot
      handled t (sent_at desks d)
  pub gones : (t : ℕ) → t ≢ s → (d : ℕ) → gone_of slot item_slot handled t (sent_at now d) ≡ gone_of slot item_slot
      handled t (sent_at desks d)
  pub tells : (aside : List (UnexpectedHalf H)) → Tells slot item_slot handled s old desks aside
      → Tells slot item_slot handled s new now aside

module _ {H N I : Type 0} (name : H → N) (slot : H → ℕ) (item_slot : I → ℕ) (handled : H → List I) (s spare : ℕ) where
  none_step : (desks : List (DataDesk H I)) → PlaceStep name slot item_slot handled s spare None None desks desks
  none_step desks = record {
    lanes = refl;
    ends = refl;
    homes = λ d. refl;
    long = refl;
    named = refl;
    admitted = refl;
    weight = λ h. refl;
    orders = omega arith;
    fulls = λ d. inl refl;
    nows = λ t apart d. refl;
    gones = λ t apart d. refl;
    tells = λ aside tells. tells;
  }

  some_step : (before after : DataPlace H I) (desks now : List (DataDesk H I)) → after.admitted ≡ before.admitted
      → Keeps slot item_slot handled s spare (stand_of before desks) (stand_of after now)
      → PlaceStep name slot item_slot handled s spare (Some before) (Some after) desks now
  some_step before after desks now same keeps = record {
    lanes = keeps.lanes;
    ends = keeps.ends;
    homes = keeps.homes;
    long = keeps.long;
    named = ap (λ a. Some (name a.value)) same;
    admitted = refl;
    weight = keeps.weight;
    orders = let e = keeps.orders in omega arith;
    fulls = keeps.fulls;
    nows = keeps.nows;
    gones = keeps.gones;
    tells = λ aside tells.
        let told = keeps.tells (home_at desks) (asides_of slot handled s aside)
        (record { stays = tells.stays; half = tells.half; knows = tells.knows; is = tells.is }) in
        record {
          stays = told.stays;
          half = told.half;
          knows = subst (λ (f : ℕ → List H). SlotKnows slot item_slot handled s (sent_at now) f
              (asides_of slot handled s aside) told.stays told.half
              after.queue.items (accepted_by after)) (λ i d. sym (keeps.homes d) i) told.knows;
          is = told.is;
        };
  }

  pub kept_step : (old new : Option (DataPlace H I)) (desks now : List (DataDesk H I))
      → PlaceKeeps slot item_slot handled s spare old new desks now
      → PlaceStep name slot item_slot handled s spare old new desks now
  kept_step None new desks now keeps = subst (λ (p : Option (DataPlace H I)
      × List (DataDesk H I)). PlaceStep name slot item_slot handled s spare None p.0 desks p.1)
      (λ i. (sym keeps.0 i, sym keeps.1 i)) (none_step desks)
  kept_step (Some before) new desks now keeps = subst (λ (p : Option (DataPlace H I)). PlaceStep name slot
      item_slot handled s spare (Some before) p desks now)
      (sym keeps.1) (some_step before keeps.0 desks now keeps.2 keeps.3)

module _ {H N I : Type 0} (name : H → N) (slot_at : N → ℕ) (item_slot : I → ℕ) (handled : H → List I) where
  abbrev slot : H → ℕ
  slot half = slot_at (name half)

  abbrev Side : List (Option (DataPlace H I)) → List (UnexpectedHalf H) → List (DataDesk H I) → ℕ → ℕ → ℕ → Type 0
  Side places aside desks room admitted asked = IsDataSide name slot_at item_slot handled places aside desks room
      admitted asked

  -- each place has a name of its slot
  abbrev pub EachAtSlot : List (Option (DataPlace H I)) → Type 0
  EachAtSlot places = (s : ℕ) → slot_at_place slot_at s (name_at name (place_at places s)) ≡ s

  pub at_slot : (places : List (Option (DataPlace H I))) → BySlot slot_at (names_of name places) → EachAtSlot places
  at_slot places slots s = ap (slot_at_place slot_at s) (sym (index_map (name_at name) places s None)) ∙ slots s

  pub by_slot : (places : List (Option (DataPlace H I))) → EachAtSlot places → BySlot slot_at (names_of name places)
  by_slot places slots s = ap (slot_at_place slot_at s) (index_map (name_at name) places s None) ∙ slots s

  -- a fact of each slot, where one place is new
  pub at_each : (P : ℕ → Option (DataPlace H I) → Type 0) (places : List (Option (DataPlace H I))) (s : ℕ)
      (place : Option (DataPlace H I)) → s < length places
      → P s place → ((t : ℕ) → t ≢ s → P t (place_at places t)) → (t : ℕ) → P t (place_at (set places s place) t)
  at_each P places s place within here others = by_index (λ t. P t (place_at (set places s place) t)) s
      (subst (P s) (sym (get_or-set_same places s place None within)) here)
      (λ t apart. subst (P t) (sym (get_or-set_other places s t place None apart)) (others t apart))

  abbrev pick_home : ℕ → List (DataDesk H I) → ℕ → List (List I)
  pick_home t desks d = lists_of slot handled t (home_at desks d)

  -- what is known of a slot whose place and orders stayed
  tells_other : (t : ℕ) (place : Option (DataPlace H I)) (desks now : List (DataDesk H I))
      (aside later : List (UnexpectedHalf H))
      → ((d : ℕ) → now_of slot item_slot handled t (sent_at now d) ≡ now_of slot item_slot handled t
      (sent_at desks d))
      → ((d : ℕ) → gone_of slot item_slot handled t (sent_at now d) ≡ gone_of slot item_slot handled t
      (sent_at desks d))
      → ((d : ℕ) → pick_home t now d ≡ pick_home t desks d) → ((d : ℕ)
      → asides_of slot handled t later d ≡ asides_of slot handled t aside d)
      → Tells slot item_slot handled t place desks aside → Tells slot item_slot handled t place now later
  tells_other t place desks now aside later nows gones lists kept tells = record {
    stays = tells.stays;
    half = tells.half;
    knows = knows_same slot item_slot handled t (sent_at desks) (sent_at now) (home_at desks) (home_at now)
        (asides_of slot handled t aside) (asides_of slot handled t later) tells.stays tells.half (queue_at place)
        (accepted_at place) nows gones lists kept tells.knows;
    is = tells.is;
  }

  pub stepped_side : (spare : ℕ) (places : List (Option (DataPlace H I))) (place : Option (DataPlace H I)) (s : ℕ)
      (aside : List (UnexpectedHalf H))
      (desks now : List (DataDesk H I)) (room admitted asked new_asked : ℕ)
      → Side places aside desks room admitted asked → s < length places
      → PlaceStep name slot item_slot handled s spare (place_at places s) place desks now
      → Fits (length desks) room place → new_asked ≤ 2 ^ 48
      → 2 * asked + spare + 2 * accepted_count place ≤ 2 * new_asked + 2 * accepted_count (place_at places s)
      → Side (set places s place) aside now room admitted new_asked
  stepped_side spare places place s aside desks now room admitted asked new_asked side within step fits few enough =
      let new : List (Option (DataPlace H I)) = set places s place in
      record {
        known = at_each (λ t p. ∥ Tells slot item_slot handled t p now aside ∥₁) places s place within
            (∥∥₁_map (side.known s) (step.tells aside))
            (λ t apart. ∥∥₁_map (side.known t) (tells_other t (place_at places t) desks now aside aside
            (step.nows t apart) (step.gones t apart)
            (λ d. ap (lists_of slot handled t) (step.homes d)) (λ d. refl)));
        balanced = λ h.
            let f : H → ℕ = λ half. h (name half) in
            let named : Option (DataPlace H I) → ℕ = λ x. weight_at h (name_at name x) in
            let a = side.balanced h in
            let b = step.weight f in
            let n = ap (weight_at h) step.named in
            let c = sum_by-set (front_at f) places s place None within in
            let d = sum_by-set named places s place None within in
            let e = sum_by-through (name_at name) (weight_at h) places in
            let g = sum_by-through (name_at name) (weight_at h) new in
            let k = homes_sum (sum_by f) desks now step.ends in
            omega arith;
        weighed = λ f none.
            let a = side.weighed f none in
            let b = step.weight f in
            let c = sum_by-set (front_at f) places s place None within in
            let k = homes_sum (sum_by f) desks now step.ends in
            omega arith;
        slots = by_slot new (at_each (λ t p. slot_at_place slot_at t (name_at name p) ≡ t) places s place within
            (ap (slot_at_place slot_at s) step.named ∙ at_slot places side.slots s)
            (λ t apart. at_slot places side.slots t));
        fits = subst (λ (n : ℕ). All (Fits n room) new) (sym step.long)
            (All-set (Fits (length desks) room) places s place fits side.fits);
        short = let a = side.short in let b = length-set places s place in omega arith;
        room_few = side.room_few;
        few = let a = side.few in let b = step.orders in
            let c = sum_by-set (pending_at {H = H} {I = I}) places s place None within in
            let d = sum_by-set (accepted_count {H = H} {I = I}) places s place None within in omega arith;
        asked_few = few;
        counted = let a = side.counted in
            let one : Option (DataPlace H I) → ℕ = λ x. cond (is_admitted x) 1 0 in
            let b : ◌≡◌ {A = ℕ} (cond (is_admitted place) 1 0) (cond (is_admitted (place_at places s)) 1 0) = ap
            (λ t. cond t 1 0) step.admitted in
            let c = sum_by-set one places s place None within in omega arith;
        aside_few = side.aside_few;
      }

  -- the law and the slot of what a slot may give
  tells_may : (s : ℕ) (place : Option (DataPlace H I)) (desks : List (DataDesk H I)) (aside : List (UnexpectedHalf H))
      → Tells slot item_slot handled s place desks aside → MayGiveAt slot item_slot s place desks
      × All (λ x. item_slot x ≡ s) (queue_at place)
  tells_may s None desks aside tells = (tt, All-nil (λ x. item_slot x ≡ s))
  tells_may s (Some place) desks aside tells = (
    by_state place.state tells.half tells.is tells.knows,
    owned
        place.queue.items tells.knows.own,
  ) where
    by_state : (state : DataState H) (half : Where I) → StateIs slot handled s state half
        → SlotKnows slot item_slot handled s (sent_at desks) (home_at desks) (asides_of slot handled s aside)
        tells.stays half place.queue.items (accepted_by place)
        → MayGive slot item_slot s state desks
    by_state (Front own to) half is knows = (
      is.1,
      stands_none slot item_slot handled s (sent_at desks) (home_at desks) (asides_of slot handled s aside)
          tells.stays half place.queue.items (accepted_by place)
          to (ap (now_at to) is.0) knows,
    )
    by_state (Placed at) half is knows = stands_here slot item_slot handled s at (sent_at desks) (home_at desks)
        (asides_of slot handled s aside) tells.stays
        is.0 is.1 place.queue.items (accepted_by place) (subst
        (λ (w : Where I). SlotKnows slot item_slot handled s (sent_at desks) (home_at desks)
        (asides_of slot handled s aside) tells.stays w place.queue.items (accepted_by place)) is.2 knows)
    by_state (Recall at to) half is knows = stands_here slot item_slot handled s at (sent_at desks) (home_at desks)
        (asides_of slot handled s aside) tells.stays
        is.0 is.1 place.queue.items (accepted_by place) (subst
        (λ (w : Where I). SlotKnows slot item_slot handled s (sent_at desks) (home_at desks)
        (asides_of slot handled s aside) tells.stays w place.queue.items (accepted_by place)) is.2 knows)
    by_state (Leaving from to) half is knows = tt

    owned : (queue : List I) → Owned item_slot s queue → All (λ x. item_slot x ≡ s) queue
    owned [] own = All-nil (λ x. item_slot x ≡ s)
    owned (x ∷ queue) own = All-cons (λ x. item_slot x ≡ s) x queue own.0 (owned queue own.1)

  may_prop : (s : ℕ) (place : Option (DataPlace H I)) (desks : List (DataDesk H I))
      → IsProp (MayGiveAt slot item_slot s place desks)
  may_prop s None desks = hlevel props
  may_prop s (Some place) desks = by_state place.state where
    by_state : (state : DataState H) → IsProp (MayGive slot item_slot s state desks)
    by_state (Front own to) = hlevel props
    by_state (Placed at) = hlevel props
    by_state (Recall at to) = hlevel props
    by_state (Leaving from to) = hlevel props

  -- the place of a slot is ready for a step
  pub ready : (places : List (Option (DataPlace H I))) (s : ℕ) (aside : List (UnexpectedHalf H))
      (desks : List (DataDesk H I)) (room admitted asked : ℕ)
      → Side places aside desks room admitted asked → s < length places
      → IsReady slot item_slot s (place_at places s) desks
  ready places s aside desks room admitted asked side within =
      let f = All-get_or (Fits (length desks) room) places s None within side.fits in
      record {
        at = f.0;
        to = f.1;
        few = let a = side.few in let b = side.asked_few in let c = get_or-le-sum_by pending_at places s None
            within in omega arith;
        law = ∥∥₁_elim (side.known s) (may_prop s (place_at places s) desks)
            (λ tells. (tells_may s (place_at places s) desks aside tells).0);
        own = ∥∥₁_elim (side.known s) (hlevel props) (λ tells. (tells_may s (place_at places s) desks aside tells).1);
      }

  pub fits_here : (places : List (Option (DataPlace H I))) (s : ℕ) (aside : List (UnexpectedHalf H))
      (desks : List (DataDesk H I)) (room admitted asked : ℕ)
      → Side places aside desks room admitted asked → s < length places → Fits (length desks) room (place_at places s)
  fits_here places s aside desks room admitted asked side within = All-get_or (Fits (length desks) room) places s
      None within side.fits

  pub admitted_within : (places : List (Option (DataPlace H I))) (s : ℕ) → is_admitted (place_at places s) ≡ true
      → s < length places
  admitted_within places s admitted = elim (nat_lt s (length places)) as (λ b. nat_lt s (length places) ≡ b
      → s < length places) [
        | true ↦ λ e. ltb-true s (length places) e
        | false ↦ λ e. absurd (true≢false (sym admitted ∙ ap is_admitted
            (get_or_past places s None (ltb-false s (length places) e))))
      ] refl

  -- a side that has just begun
  pub new_side : (desks : List (DataDesk H I)) (room : ℕ) → room ≤ 256 → All IsNewDesk desks
      → Side [] [] desks room 0 0
  new_side desks room few new = record {
    known = λ s. ∣ record {
      stays = [];
      half = AtFront [];
      knows = knows_nothing slot item_slot handled s (sent_at desks) (home_at desks) (asides_of slot handled s [])
          (λ d. new_lists (λ desk. sent desk.orders) (λ desk is. is.0) desks new d)
          (λ d. new_lists (λ desk. taken desk.home) (λ desk is. is.1) desks new d) (λ d. refl);
      is = refl;
    } ∣₁;
    balanced = λ h.
        let f : H → ℕ = λ half. h (name half) in
        let a : sum_by (sent_weight {I = I} f) desks ≡ 0 = new_sum (sent_weight f)
        (λ desk is. ap (λ l. sum_by f (halves_in l)) is.0) desks new in
        let b : sum_by (home_weight {I = I} f) desks ≡ 0 = new_sum (home_weight f) (λ desk is. ap (sum_by f) is.1)
        desks new in omega arith;
    weighed = λ f none.
        let a : sum_by (sent_weight {I = I} f) desks ≡ 0 = new_sum (sent_weight f)
        (λ desk is. ap (λ l. sum_by f (halves_in l)) is.0) desks new in
        let b : sum_by (home_weight {I = I} f) desks ≡ 0 = new_sum (home_weight f) (λ desk is. ap (sum_by f) is.1)
        desks new in omega arith;
    slots = λ s. refl;
    fits = All-nil (Fits (length desks) room);
    short = omega arith;
    room_few = few;
    few = let a : sum_by (order_count {O = DataOrder H I} {H = H}) desks ≡ 0 =
        new_sum order_count (λ desk is. ap length is.0)
        desks new in omega arith;
    asked_few = omega arith;
    counted = refl;
    aside_few = omega arith;
  } where
    new_sum : (f : DataDesk H I → ℕ) → ((desk : DataDesk H I) → IsNewDesk desk → f desk ≡ 0)
        → (desks : List (DataDesk H I)) → All IsNewDesk desks → sum_by f desks ≡ 0
    new_sum f none [] new = refl
    new_sum f none (desk ∷ desks) new =
        let a = sum_by-cons f desk desks in
        let b = none desk (All-head IsNewDesk desk desks new) in
        let c = new_sum f none desks (All-tail IsNewDesk desk desks new) in omega arith

    new_lists : {A : Type 0} (f : DataDesk H I → List A) → ((desk : DataDesk H I) → IsNewDesk desk → f desk ≡ [])
        → (desks : List (DataDesk H I)) → All IsNewDesk desks
        → (d : ℕ) → get_or (map f desks) d [] ≡ []
    new_lists f none [] new d = refl
    new_lists f none (desk ∷ desks) new zero = none desk (All-head IsNewDesk desk desks new)
    new_lists f none (desk ∷ desks) new (suc d) = new_lists f none desks (All-tail IsNewDesk desk desks new) d

  place_none : (more k : ℕ) → get_or {A = Option (DataPlace H I)} (replicate more None) k None ≡ None
  place_none zero k = refl
  place_none (suc more) zero = refl
  place_none (suc more) (suc k) = place_none more k

  pub place_grown : (places : List (Option (DataPlace H I))) (more k : ℕ)
      → place_at (places ++ replicate more None) k ≡ place_at places k
  place_grown [] more k = place_none more k
  place_grown (place ∷ places) more zero = refl
  place_grown (place ∷ places) more (suc k) = place_grown places more k

  grown_sum : (f : Option (DataPlace H I) → ℕ) (places : List (Option (DataPlace H I))) (more : ℕ) → f None ≡ 0
      → sum_by f (places ++ replicate more None) ≡ sum_by f places
  grown_sum f places more nothing =
      let a = sum_by-append f places (replicate more None) in
      let b = sum_by-replicate f more None in
      let c : more * f None ≡ 0 = ap (λ n. more * n) nothing ∙ (omega arith) in omega arith

  grown_side : (places : List (Option (DataPlace H I))) (more : ℕ) (aside : List (UnexpectedHalf H))
      (desks : List (DataDesk H I)) (room admitted asked : ℕ)
      → length (places ++ replicate more None) ≤ 65533
      → Side places aside desks room admitted asked → Side (places ++ replicate more None) aside desks room
      admitted asked
  grown_side places more aside desks room admitted asked short side =
      let new : List (Option (DataPlace H I)) = places ++ replicate more None in
      record {
        known = λ s. subst (λ (p : Option (DataPlace H I)). ∥ Tells slot item_slot handled s p desks aside ∥₁)
            (sym (place_grown places more s)) (side.known s);
        balanced = λ h.
            let f : H → ℕ = λ half. h (name half) in
            let named : Option (DataPlace H I) → ℕ = λ x. weight_at h (name_at name x) in
            let a = side.balanced h in
            let c = grown_sum (front_at f) places more refl in
            let d = grown_sum named places more refl in
            let e = sum_by-through (name_at name) (weight_at h) places in
            let g = sum_by-through (name_at name) (weight_at h) new in
            omega arith;
        weighed = λ f none.
            let a = side.weighed f none in let c = grown_sum (front_at f) places more refl in omega arith;
        slots = by_slot new (λ s. ap (λ x. slot_at_place slot_at s (name_at name x)) (place_grown places more s)
            ∙ at_slot places side.slots s);
        fits = All-append (Fits (length desks) room) places (replicate more None) side.fits
            (All-replicate (Fits (length desks) room) more None
            (omega arith, omega arith, omega arith, λ rests. (refl, refl)));
        short = short;
        room_few = side.room_few;
        few = let a = side.few in let c = grown_sum (pending_at {H = H} {I = I}) places more refl in
            let d = grown_sum (accepted_count {H = H} {I = I}) places more refl in omega arith;
        asked_few = side.asked_few;
        counted = let one : Option (DataPlace H I) → ℕ = λ x. cond (is_admitted x) 1 0 in
            let a = side.counted in let c = grown_sum one places more refl in omega arith;
        aside_few = side.aside_few;
      }

  -- room was made
  pub roomy_side : (places new : List (Option (DataPlace H I))) (aside later : List (UnexpectedHalf H))
      (desks : List (DataDesk H I)) (room admitted asked : ℕ)
      → Side places aside desks room admitted asked → Grown places new → length new ≤ 65533 → later ≡ aside
      → Side new later desks room admitted asked
  roomy_side places new aside later desks room admitted asked side grown short same =
      subst (λ (p : List (Option (DataPlace H I)) × List (UnexpectedHalf H)). Side p.0 p.1 desks room admitted asked)
      (λ i. (sym grown.1 i, sym same i))
      (grown_side places grown.0 aside desks room admitted asked (let e = ap length grown.1 in omega arith) side)

  -- a half was admitted
  pub entered_side : (places new : List (Option (DataPlace H I))) (s slice : ℕ) (moves : Bool) (half : H)
      (aside : List (UnexpectedHalf H)) (desks : List (DataDesk H I)) (room admitted asked : ℕ)
      → Side places aside desks room admitted asked → s < length places → slot half ≡ s
      → is_admitted (place_at places s) ≡ false → handled half ≡ [] → slice < length desks
      → asked < 2 ^ 48 → Enters s slice moves half places new → Side new aside desks room (admitted + 1) (asked + 1)
  entered_side places new s slice moves half aside desks room admitted asked side within own fresh unhandled bound
      few enters =
      subst (λ (l : List (Option (DataPlace H I))). Side l aside desks room (admitted + 1) (asked + 1))
      (sym enters.is) made where
        now : DataPlace H I
        now = enters.now

        was : place_at places s ≡ None
        was = none_there (place_at places s) fresh where
          none_there : (place : Option (DataPlace H I)) → is_admitted place ≡ false → place ≡ None
          none_there None isnt = refl
          none_there (Some place) isnt = absurd (true≢false isnt)

        tells_entered : Tells slot item_slot handled s None desks aside
            → Tells slot item_slot handled s (Some now) desks aside
        tells_entered tells = record {
          stays = tells.stays;
          half = tells.half;
          knows = subst (λ (p : List I × List I). SlotKnows slot item_slot handled s (sent_at desks)
              (home_at desks) (asides_of slot handled s aside) tells.stays tells.half p.0 p.1)
              (λ i. (sym enters.queue i, sym enters.accepted i)) tells.knows;
          is = subst (λ (x : DataState H). StateIs slot handled s x tells.half) (sym enters.state) (
            tells.is
                ∙ ap AtFront (sym unhandled),
            own,
          );
        }

        made : Side (set places s (Some now)) aside desks room (admitted + 1) (asked + 1)
        made =
            let new : List (Option (DataPlace H I)) = set places s (Some now) in
            let q = ap length enters.queue in let l = ap length enters.accepted in
            record {
              known = at_each (λ t p. ∥ Tells slot item_slot handled t p desks aside ∥₁) places s (Some now) within
                  (∥∥₁_map (subst (λ (p : Option (DataPlace H I)). ∥ Tells slot item_slot handled s p desks
                  aside ∥₁) was (side.known s)) tells_entered)
                  (λ t apart. side.known t);
              balanced = λ h.
                  let f : H → ℕ = λ half. h (name half) in
                  let named : Option (DataPlace H I) → ℕ = λ x. weight_at h (name_at name x) in
                  let a = side.balanced h in
                  let b = ap (front_weight f) enters.state in
                  let n = ap (λ x. h (name x)) enters.admitted in
                  let u = ap (front_at f) was in let v = ap named was in
                  let c = sum_by-set (front_at f) places s (Some now) None within in
                  let d = sum_by-set named places s (Some now) None within in
                  let e = sum_by-through (name_at name) (weight_at h) places in
                  let g = sum_by-through (name_at name) (weight_at h) new in
                  omega arith;
              weighed = λ f none.
                  let a = side.weighed f none in
                  let b = ap (front_weight f) enters.state in
                  let n = none half unhandled in
                  let u = ap (front_at f) was in
                  let c = sum_by-set (front_at f) places s (Some now) None within in
                  omega arith;
              slots = by_slot new (at_each (λ t p. slot_at_place slot_at t (name_at name p) ≡ t) places s
                  (Some now) within
                  (ap slot enters.admitted ∙ own) (λ t apart. at_slot places side.slots t));
              fits = All-set (Fits (length desks) room) places s (Some now) (
                (let a = ap at_end enters.state in omega arith),
                (let a = ap to_end enters.state in omega arith),
                (omega arith),
                λ rests. (q, ap is_settled enters.state),
              ) side.fits;
              short = let a = side.short in let b = length-set places s (Some now) in omega arith;
              room_few = side.room_few;
              few = let a = side.few in let b = ap pending enters.state in
                  let u = ap (pending_at {H = H} {I = I}) was in let v = ap (accepted_count {H = H} {I = I}) was in
                  let c = sum_by-set (pending_at {H = H} {I = I}) places s (Some now) None within in
                  let d = sum_by-set (accepted_count {H = H} {I = I}) places s (Some now) None within in omega arith;
              asked_few = omega arith;
              counted = let a = side.counted in
                  let one : Option (DataPlace H I) → ℕ = λ x. cond (is_admitted x) 1 0 in
                  let b = ap one was in
                  let c = sum_by-set one places s (Some now) None within in omega arith;
              aside_few = let a = side.aside_few in omega arith;
            }

pub fits_most : {H I : Type 0} (n room : ℕ) (places : List (Option (DataPlace H I))) → room ≤ 256
    → All (Fits n room) places → All (Fits n 256) places
fits_most n room places few fits = All-weaker (Fits n room) (Fits n 256)
    (λ place fit. (fit.0, fit.1, (let a = fit.2 in omega arith), fit.3)) places fits

-- a half that was admitted stands at the front of its slot
pub stands_at_front : {H I : Type 0} (slot slice : ℕ) (moves : Bool) (half : H)
    (places new : List (Option (DataPlace H I))) (now : DataPlace H I)
    → new ≡ set places slot (Some now) → now.admitted.value ≡ half → now.moved ≡ moves
    → now.state ≡ Front half slice → now.queue.items ≡ [] → accepted_by now ≡ []
    → Enters slot slice moves half places new
stands_at_front slot slice moves half places new now made admitted moved state queue accepted = record {
  now = now;
  is = made;
  admitted = admitted;
  moved = moved;
  state = state;
  queue = queue;
  accepted = accepted;
}
