-- What one step leaves of the facts that a side keeps.
use Rattle.std.proofs.Common.{◌≡◌, ℕ, zero, suc, ◌+◌, ◌*◌, ◌^◌, ◌<◌, ◌≤◌, true, false, cond, List, [], ◌∷◌, ◌++◌}
use Rattle.std.proofs.Common.{length, map, set, get_or, replicate, refl, sym, ap, ◌∙◌, subst, arith}
use Rattle.std.specs.Prelude.{nat_eq, Option, Some, None}
use Rattle.std.specs.List.{sum_by, All}
use Rattle.std.proofs.lemmas.List.{set-get_or, get_or-set_same, get_or-set_other}
use Rattle.std.proofs.lemmas.List.Elements.{All-get_or, All-set, All-append, All-replicate, All-weaker}
use Rattle.std.proofs.lemmas.List.Sums.{sum_by-append, sum_by-set}
use Rattle.std.proofs.lemmas.List.Folds.{sum_by-replicate}
use borrow.Author.Tests.{eqb-true, eqb-false}
use Rattle.worker_core.specs.Desks.{Desk}
use Rattle.worker_core.specs.declared.order.Order.{Order}
use Rattle.worker_core.specs.Names.{weight}
use Rattle.worker_core.proofs.Arrivals.{sum_by-through}
use Rattle.migration.specs.declared.place.ControlPlace.{ControlPlace}
use Rattle.migration.specs.declared.place.ControlState.TheVariants.{Front}
use Rattle.migration.specs.Desks.{sent_weight, home_weight}
use Rattle.worker_core.specs.Desks.{order_count}
use Rattle.migration.specs.Places.{place_at, pending_at, is_admitted, is_waiting_at, PlaceFits, name_at, names_of}
use Rattle.migration.specs.Places.{front_at, weight_at, wait_weight, IsOwn, IsOwnAt}
use Rattle.migration.specs.Steps.{Welcomes, WelcomesAt}
use Rattle.worker_core.specs.BySlot.{Grown}
use Rattle.migration.specs.Sides.{slot_at, BySlot, IsSide}

-- an index of mapped items, where the default is mapped too
pub index_map : {X Y : Type 0} (f : X → Y) (xs : List X) (k : ℕ) (d : X) → get_or (map f xs) k (f d) ≡ f (get_or xs k d)
index_map f [] k d = refl
index_map f (x ∷ xs) zero d = refl
index_map f (x ∷ xs) (suc k) d = index_map f xs k d

-- an index within a list has no use for a default
pub same_default : {X : Type 0} (xs : List X) (k : ℕ) (d e : X) → k < length xs → get_or xs k d ≡ get_or xs k e
same_default [] k d e within = absurd (omega arith)
same_default (x ∷ xs) zero d e within = refl
same_default (x ∷ xs) (suc k) d e within = same_default xs k d e (omega arith)

-- a half that came home, and the places
pub welcomed_at : {H : Type 0} (half : H) (slot : ℕ) (places new : List (Option (ControlPlace H)))
    (place : Option (ControlPlace H)) (back : Option H)
    → slot < length places → new ≡ set places slot place → Welcomes half (place_at places slot) place back
    → WelcomesAt half slot places new back
welcomed_at half slot places new place None within is welcomes = (place, within, is, welcomes)
welcomed_at half slot places new place (Some back) within is welcomes =
    (welcomes.0, is ∙ ap (set places slot) welcomes.1 ∙ set-get_or places slot None, welcomes.2)

module _ {H N : Type 0} (name : H → N) (slot_of : N → ℕ) where
  -- each place has a name of its slot
  abbrev pub AtSlot : List (Option (ControlPlace H)) → Type 0
  AtSlot places = (slot : ℕ) → slot_at slot_of slot (name_at name (place_at places slot)) ≡ slot

  pub at_slot : (places : List (Option (ControlPlace H))) → BySlot slot_of (names_of name places) → AtSlot places
  at_slot places slots slot = ap (slot_at slot_of slot) (sym (index_map (name_at name) places slot None)) ∙ slots slot

  pub by_slot : (places : List (Option (ControlPlace H))) → AtSlot places → BySlot slot_of (names_of name places)
  by_slot places slots slot = ap (slot_at slot_of slot) (index_map (name_at name) places slot None) ∙ slots slot

  -- what a place weighs that stands at its slot
  pub wait_weight_is : (w : ℕ → ℕ) (slot : ℕ) (place : Option (ControlPlace H))
      → slot_at slot_of slot (name_at name place) ≡ slot
      → wait_weight name slot_of w place ≡ cond (is_waiting_at place) (w slot) 0
  wait_weight_is w slot None at = refl
  wait_weight_is w slot (Some place) at = ap (λ n. cond (is_waiting_at (Some place)) (w n) 0) at

  -- what one step at a place, the desks and the lists may change
  pub record Change (places : List (Option (ControlPlace H))) (place : Option (ControlPlace H)) (slot : ℕ)
      (aside new_aside : List H) (desks now : List (Desk H))
      (waiting new_waiting serving new_serving : List ℕ) (admitted new_admitted asked new_asked : ℕ) : Type 0 where
    pub within : slot < length places
    pub balance : (h : N → ℕ) → front_at name h place + weight name h new_aside + sum_by (sent_weight name h) now
        + weight_at h (name_at name (place_at places slot)) + sum_by (home_weight name h) desks
        ≡ front_at name h (place_at places slot) + weight name h aside + sum_by (sent_weight name h) desks
        + weight_at h (name_at name place) + sum_by (home_weight name h) now
    pub at : slot_at slot_of slot (name_at name place) ≡ slot
    pub own : IsOwnAt name slot_of slot place
    pub waits : (w : ℕ → ℕ) → sum_by w new_waiting + sum_by w new_serving
        + wait_weight name slot_of w (place_at places slot)
        ≡ sum_by w waiting + sum_by w serving + wait_weight name slot_of w place
    pub long : length now ≡ length desks
    pub fits : PlaceFits (length desks) new_asked place
    pub later : asked ≤ new_asked
    pub few : new_asked ≤ 2 ^ 48
    pub count : sum_by (order_count {O = Order H} {H = H}) now + pending_at place + 2 * asked
        ≤ sum_by (order_count {O = Order H} {H = H}) desks + pending_at (place_at places slot) + 2 * new_asked
    pub counted : new_admitted + cond (is_admitted (place_at places slot)) 1 0 ≡ admitted + cond (is_admitted place) 1 0
    pub aside_few : length new_aside ≤ new_admitted

  fits_later : (n asked later : ℕ) → asked ≤ later → (place : Option (ControlPlace H)) → PlaceFits n asked place
      → PlaceFits n later place
  fits_later n asked later more place fits = (fits.0, fits.1, (let e = fits.2 in omega arith))

  pub set_side : (places : List (Option (ControlPlace H))) (place : Option (ControlPlace H)) (slot : ℕ)
      (aside new_aside : List H) (desks now : List (Desk H))
      (waiting new_waiting serving new_serving : List ℕ) (admitted new_admitted asked new_asked : ℕ)
      → IsSide name slot_of places aside desks waiting serving admitted asked
      → Change places place slot aside new_aside desks now waiting new_waiting serving new_serving admitted
      new_admitted asked new_asked
      → IsSide name slot_of (set places slot place) new_aside now new_waiting new_serving new_admitted new_asked
  set_side places place slot aside new_aside desks now waiting new_waiting serving new_serving admitted
      new_admitted asked new_asked side change =
      let new : List (Option (ControlPlace H)) = set places slot place in
      let slots = at_slot places side.slots in
      record {
        balanced = λ h.
            let named : Option (ControlPlace H) → ℕ = λ x. weight_at h (name_at name x) in
            let a = side.balanced h in
            let b = change.balance h in
            let c = sum_by-set (front_at name h) places slot place None change.within in
            let d = sum_by-set named places slot place None change.within in
            let e = sum_by-through (name_at name) (weight_at h) places in
            let f = sum_by-through (name_at name) (weight_at h) new in
            omega arith;
        slots = by_slot new (λ k. elim (nat_eq k slot) as (λ b. nat_eq k slot ≡ b
            → slot_at slot_of k (name_at name (place_at new k)) ≡ k) [
              | true ↦ λ e. subst (λ (n : ℕ). slot_at slot_of n (name_at name (place_at new n)) ≡ n)
                  (sym (eqb-true k slot e))
                  (ap (λ x. slot_at slot_of slot (name_at name x))
                  (get_or-set_same places slot place None change.within) ∙ change.at)
              | false ↦ λ e. ap (λ x. slot_at slot_of k (name_at name x))
                  (get_or-set_other places slot k place None (eqb-false k slot e)) ∙ slots k
            ] refl);
        fronts = λ k. elim (nat_eq k slot) as (λ b. nat_eq k slot ≡ b → IsOwnAt name slot_of k (place_at new k)) [
          | true ↦ λ e. subst (λ (n : ℕ). IsOwnAt name slot_of n (place_at new n)) (sym (eqb-true k slot e))
              (subst (IsOwnAt name slot_of slot) (sym (get_or-set_same places slot place None change.within))
              change.own)
          | false ↦ λ e. subst (IsOwnAt name slot_of k)
              (sym (get_or-set_other places slot k place None (eqb-false k slot e))) (side.fronts k)
        ] refl;
        queued = λ w.
            let a = side.queued w in
            let b = change.waits w in
            let c = sum_by-set (wait_weight name slot_of w) places slot place None change.within in
            omega arith;
        fits = subst (λ (n : ℕ). All (PlaceFits n new_asked) new) (sym change.long)
            (All-set (PlaceFits (length desks) new_asked) places slot place change.fits
            (All-weaker (PlaceFits (length desks) asked) (PlaceFits (length desks) new_asked)
            (fits_later (length desks) asked new_asked change.later) places side.fits));
        few = let a = side.few in let b = change.count in
            let c = sum_by-set (pending_at {H = H}) places slot place None change.within in omega arith;
        asked_few = change.few;
        counted = let a = side.counted in let b = change.counted in
            let one : Option (ControlPlace H) → ℕ = λ x. cond (is_admitted x) 1 0 in
            let c = sum_by-set one places slot place None change.within in omega arith;
        aside_few = change.aside_few;
      }

  -- no place changed
  pub same_places : (places : List (Option (ControlPlace H))) (aside new_aside : List H) (desks now : List (Desk H))
      (waiting new_waiting serving new_serving : List ℕ) (admitted asked : ℕ)
      → IsSide name slot_of places aside desks waiting serving admitted asked
      → ((h : N → ℕ) → weight name h new_aside + sum_by (sent_weight name h) now + sum_by (home_weight name h) desks
      ≡ weight name h aside + sum_by (sent_weight name h) desks + sum_by (home_weight name h) now)
      → ((w : ℕ → ℕ) → sum_by w new_waiting + sum_by w new_serving ≡ sum_by w waiting + sum_by w serving)
      → length now ≡ length desks
      → sum_by (order_count {O = Order H} {H = H}) now ≤ sum_by (order_count {O = Order H} {H = H}) desks
      → length new_aside ≤ admitted
      → IsSide name slot_of places new_aside now new_waiting new_serving admitted asked
  same_places places aside new_aside desks now waiting new_waiting serving new_serving admitted asked side balance
      waits long count few = record {
        balanced = λ h. let a = side.balanced h in let b = balance h in omega arith;
        slots = side.slots;
        fronts = side.fronts;
        queued = λ w. let a = side.queued w in let b = waits w in omega arith;
        fits = subst (λ (n : ℕ). All (PlaceFits n asked) places) (sym long) side.fits;
        few = let a = side.few in omega arith;
        asked_few = side.asked_few;
        counted = side.counted;
        aside_few = few;
      }

  place_none : (more k : ℕ) → get_or {A = Option (ControlPlace H)} (replicate more None) k None ≡ None
  place_none zero k = refl
  place_none (suc more) zero = refl
  place_none (suc more) (suc k) = place_none more k

  pub place_grown : (places : List (Option (ControlPlace H))) (more k : ℕ)
      → place_at (places ++ replicate more None) k ≡ place_at places k
  place_grown [] more k = place_none more k
  place_grown (place ∷ places) more zero = refl
  place_grown (place ∷ places) more (suc k) = place_grown places more k

  grown_sum : (f : Option (ControlPlace H) → ℕ) (places : List (Option (ControlPlace H))) (more : ℕ) → f None ≡ 0
      → sum_by f (places ++ replicate more None) ≡ sum_by f places
  grown_sum f places more zero_there =
      let a = sum_by-append f places (replicate more None) in
      let b = sum_by-replicate f more None in
      let c : more * f None ≡ 0 = ap (λ n. more * n) zero_there ∙ (omega arith) in omega arith

  -- some free places more
  pub grown_side : (places : List (Option (ControlPlace H))) (more : ℕ) (aside : List H) (desks : List (Desk H))
      (waiting serving : List ℕ) (admitted asked : ℕ)
      → IsSide name slot_of places aside desks waiting serving admitted asked
      → IsSide name slot_of (places ++ replicate more None) aside desks waiting serving admitted asked
  grown_side places more aside desks waiting serving admitted asked side =
      let new : List (Option (ControlPlace H)) = places ++ replicate more None in
      record {
        balanced = λ h.
            let named : Option (ControlPlace H) → ℕ = λ x. weight_at h (name_at name x) in
            let a = side.balanced h in
            let c = grown_sum (front_at name h) places more refl in
            let d = grown_sum named places more refl in
            let e = sum_by-through (name_at name) (weight_at h) places in
            let f = sum_by-through (name_at name) (weight_at h) new in
            omega arith;
        slots = by_slot new (λ k. ap (λ x. slot_at slot_of k (name_at name x)) (place_grown places more k)
            ∙ at_slot places side.slots k);
        fronts = λ k. subst (IsOwnAt name slot_of k) (sym (place_grown places more k)) (side.fronts k);
        queued = λ w. let a = side.queued w in let c = grown_sum
            (wait_weight name slot_of w) places more refl in omega arith;
        fits = All-append (PlaceFits (length desks) asked) places (replicate more None) side.fits
            (All-replicate (PlaceFits (length desks) asked) more None (omega arith, omega arith, omega arith));
        few = let a = side.few in let c = grown_sum (pending_at {H = H}) places more refl in omega arith;
        asked_few = side.asked_few;
        counted = let one : Option (ControlPlace H) → ℕ = λ x. cond (is_admitted x) 1 0 in
            let a = side.counted in let c = grown_sum one places more refl in omega arith;
        aside_few = side.aside_few;
      }

module _ {H N : Type 0} (name : H → N) (slot_of : N → ℕ) where
  -- a half at the front is of its slot, also under another state of the same name
  pub own_front : (slot : ℕ) (place : Option (ControlPlace H)) (before : ControlPlace H) (half told : H) (to : ℕ)
      → IsOwnAt name slot_of slot place → place ≡ Some before → before.state ≡ Front half to
      → name told ≡ name half → slot_of (name told) ≡ slot
  own_front slot place before half told to own is front named =
      ap slot_of named ∙ subst (IsOwn name slot_of slot) front (subst (IsOwnAt name slot_of slot) is own)

  -- what a place of a side has fits
  pub place_fits : (places : List (Option (ControlPlace H))) (slot : ℕ) (aside : List H) (desks : List (Desk H))
      (waiting serving : List ℕ) (admitted asked : ℕ)
      → IsSide name slot_of places aside desks waiting serving admitted asked → slot < length places
      → PlaceFits (length desks) (2 ^ 48) (place_at places slot)
  place_fits places slot aside desks waiting serving admitted asked side within =
      let f = All-get_or (PlaceFits (length desks) asked) places slot None within side.fits in
      let e = side.asked_few in (f.0, f.1, (let g = f.2 in omega arith))

  -- room was made
  pub roomy_side : (places new : List (Option (ControlPlace H))) (aside new_aside : List H) (desks : List (Desk H))
      (waiting new_waiting serving new_serving : List ℕ) (admitted asked : ℕ)
      → IsSide name slot_of places aside desks waiting serving admitted asked
      → Grown places new → new_aside ≡ aside → new_waiting ≡ waiting → new_serving ≡ serving
      → IsSide name slot_of new new_aside desks new_waiting new_serving admitted asked
  roomy_side places new aside new_aside desks waiting new_waiting serving new_serving admitted asked side grown a w s =
      subst (λ (p : List (Option (ControlPlace H)) × List H × List ℕ
      × List ℕ). IsSide name slot_of p.0 p.1 desks p.2 p.3 admitted asked)
      (λ i. (sym grown.1 i, sym a i, sym w i, sym s i))
      (grown_side name slot_of places grown.0 aside desks waiting serving admitted asked side)
