-- How the slots that wait are served, one after another.
use Rattle.std.proofs.Common.{◌≡◌, ◌≢◌, ℕ, ◌<◌, ◌⊎◌, inl, inr, true, false, cond, List, [], ◌∷◌, length, set}
use Rattle.std.proofs.Common.{refl, sym, ap, ◌∙◌, subst, arith}
use Rattle.std.specs.Prelude.{nat_eq, Option, Some, None}
use Rattle.std.specs.List.{sum_by}
use Rattle.std.proofs.lemmas.List.Sums.{sum_by_push, get_or-le-sum_by}
use Rattle.std.proofs.lemmas.Bool.{eq-eqb, ne_eqb}
use Rattle.std.proofs.Math.Seq.{map-set_same}
use borrow.Author.Tests.{eqb-true, eqb-false}
use Rattle.worker_core.specs.Desks.{Desk}
use Rattle.worker_core.specs.Workers.{Lanes}
use Rattle.migration.specs.declared.place.ControlPlace.{ControlPlace}
use Rattle.migration.specs.declared.place.ControlState.TheVariants.{Front, Placed, Recall, Leaving}
use Rattle.worker_core.specs.Desks.{fulls_at}
use Rattle.migration.specs.Places.{place_at, is_waiting, is_waiting_at, waits_at, waits_for, hop_at, hops_of, name_at}
use Rattle.migration.specs.Places.{names_of, wait_weight}
use Rattle.migration.specs.Steps.{Welcomes}
use Rattle.migration.specs.Sides.{IsSide, AllMetFull}
use Rattle.worker_core.specs.Counts.{Rises}
use Rattle.migration.specs.Words.{Roll, ServedNext}
use Rattle.worker_core.proofs.Rising.{rises_then, then_rises}
use Rattle.migration.proofs.PlaceSteps.{on, waiting_within}
use Rattle.migration.proofs.SideSteps.{at_slot, wait_weight_is}

module _ {N : Type 0} where
  abbrev pub roll : List (Option N) → List ℕ → List Lanes → ℕ → ℕ → Roll N
  roll names hops lanes admitted asked = record {
    names = names;
    hops = hops;
    lanes = lanes;
    admitted = admitted;
    asked = asked;
  }

  pub roll_same : (names was : List (Option N)) (hops were : List ℕ) (lanes before : List Lanes)
      (admitted asked : ℕ) → names ≡ was → hops ≡ were → lanes ≡ before
      → roll names hops lanes admitted asked ≡ roll was were before admitted asked
  roll_same names was hops were lanes before admitted asked n h l i = roll (n i) (h i) (l i) admitted asked

module _ {H N : Type 0} (name : H → N) (places : List (Option (ControlPlace H))) (place : Option (ControlPlace H)) (slot : ℕ) where
  pub names_set : name_at name place ≡ name_at name (place_at places slot)
      → names_of name (set places slot place) ≡ names_of name places
  names_set same = map-set_same (name_at name) places slot place None same

  pub hops_set : hop_at place ≡ hop_at (place_at places slot) → hops_of (set places slot place) ≡ hops_of places
  hops_set same = map-set_same hop_at places slot place None same

  pub welcomed_name : (half : H) (old : Option (ControlPlace H)) → old ≡ place_at places slot → Welcomes half old place None
      → (name_at name place ≡ name_at name (place_at places slot)) × (hop_at place ≡ hop_at (place_at places slot))
  welcomed_name half old same welcomes =
      let was : place_at places slot ≡ Some welcomes.0 = sym same ∙ welcomes.2 in (
        ap (name_at name) welcomes.3 ∙ ap (λ a. Some (name a.value)) welcomes.5 ∙ sym (ap (name_at name) was),
        ap hop_at welcomes.3 ∙ welcomes.4 ∙ sym (ap hop_at was),
      )

-- a slot that waits for a slice is still to be served, or met a full lane there
abbrev pub Serving : {H : Type 0} → List ℕ → List (Option (ControlPlace H)) → List (Desk H) → List (Desk H) → Type 0
Serving serving places desks now = (slot slice : ℕ) → waits_at (place_at places slot) ≡ Some slice
    → (0 < sum_by (on slot) serving) ⊎ Rises (fulls_at desks slice) (fulls_at now slice)

waits_true : {H : Type 0} (place : Option (ControlPlace H)) (slice : ℕ) → waits_at place ≡ Some slice
    → is_waiting_at place ≡ true
waits_true None slice waits = absurd (let no : ⊥ = cc in no)
waits_true (Some place) slice waits = by_state place.state waits where
  by_state : {H : Type 0} (state : _) → waits_for {H = H} state ≡ Some slice → is_waiting state ≡ true
  by_state (Front half to) waits = refl
  by_state (Placed at) waits = absurd (let no : ⊥ = cc in no)
  by_state (Recall at until to) waits = refl
  by_state (Leaving from to) waits = absurd (let no : ⊥ = cc in no)

module _ {H N : Type 0} (name : H → N) (slot_of : N → ℕ) where
  -- all that wait are to be served
  pub serving_all : (places : List (Option (ControlPlace H))) (aside : List H) (desks : List (Desk H))
      (waiting serving : List ℕ) (admitted asked : ℕ)
      → IsSide name slot_of places aside desks waiting serving admitted asked → waiting ≡ []
      → Serving serving places desks desks
  serving_all places aside desks waiting serving admitted asked side none slot slice waits =
      let f : Option (ControlPlace H) → ℕ = wait_weight name slot_of (on slot) in
      let true_here = waits_true (place_at places slot) slice waits in
      let within = waiting_within name slot_of places slot true_here in
      let a = get_or-le-sum_by f places slot None within in
      let b = wait_weight_is name slot_of (on slot) slot (place_at places slot)
      (at_slot name slot_of places side.slots slot) in
      let c = ap (λ t. cond t (on slot slot) 0) true_here in
      let d : on slot slot ≡ 1 = ap (λ t. cond t 1 0) (eq-eqb slot slot refl) in
      let q = side.queued (on slot) in
      let e = ap (sum_by (on slot)) none in
      inl (omega arith)

module _ {H N : Type 0} (name : H → N) (hop_of : H → ℕ) where
  pub serving_more : (serving new_serving : List ℕ) (places new_places : List (Option (ControlPlace H)))
      (first desks now : List (Desk H))
      → ((slice : ℕ) → (fulls_at desks slice ≡ fulls_at first slice)
      ⊎ Rises (fulls_at first slice) (fulls_at desks slice))
      → Serving serving places first desks
      → ServedNext name hop_of serving new_serving places new_places desks now
      → Serving new_serving new_places first now
  serving_more serving new_serving places new_places first desks now earlier so_far served slot slice waits =
      elim (nat_eq slot served.slot) as (λ b. nat_eq slot served.slot ≡ b → (0 < sum_by (on slot) new_serving)
      ⊎ Rises (fulls_at first slice) (fulls_at now slice)) [
        | true ↦ λ e.
            let same : slot ≡ served.slot = eqb-true slot served.slot e in
            inr (then_rises (fulls_at first slice) (fulls_at desks slice) (fulls_at now slice) (earlier slice)
            (served.again slice (ap (λ n. waits_at (place_at new_places n)) (sym same) ∙ waits)))
        | false ↦ λ e.
            let apart : slot ≢ served.slot = eqb-false slot served.slot e in
            elim (so_far slot slice (ap waits_at (sym (served.others slot apart)) ∙ waits)) [
              | inl queued ↦ inl (
                  let a = ap (sum_by (on slot)) served.next in
                  let b = sum_by_push (on slot) new_serving served.slot in
                  let c : on slot served.slot ≡ 0 = ap (λ t. cond t 1 0)
                  (ne_eqb served.slot slot (λ q. apart (sym q))) in
                  omega arith)
              | inr rose ↦ inr (rises_then (fulls_at first slice) (fulls_at desks slice) (fulls_at now slice) rose
                  (served.later slice))
            ]
      ] refl

module _ {H : Type 0} where
  pub later_more : (first desks now : List (Desk H)) (slice : ℕ)
      → (fulls_at desks slice ≡ fulls_at first slice) ⊎ Rises (fulls_at first slice) (fulls_at desks slice)
      → (fulls_at now slice ≡ fulls_at desks slice) ⊎ Rises (fulls_at desks slice) (fulls_at now slice)
      → (fulls_at now slice ≡ fulls_at first slice) ⊎ Rises (fulls_at first slice) (fulls_at now slice)
  later_more first desks now slice earlier more = elim more [
    | inl same ↦ elim earlier [
      | inl still ↦ inl (same ∙ still)
      | inr rose ↦ inr (subst (Rises (fulls_at first slice)) (sym same) rose)
    ]
    | inr again ↦ inr (then_rises (fulls_at first slice) (fulls_at desks slice) (fulls_at now slice) earlier again)
  ]

  pub serving_none : (serving : List ℕ) (places : List (Option (ControlPlace H))) (desks now : List (Desk H))
      → serving ≡ [] → Serving serving places desks now
      → AllMetFull places desks now
  serving_none serving places desks now none so_far slot slice waits = elim (so_far slot slice waits) [
    | inl queued ↦ absurd (let a = ap (sum_by (on slot)) none in omega arith)
    | inr rose ↦ rose
  ]

  pub met_full_since : (places : List (Option (ControlPlace H))) (first desks now : List (Desk H))
      → ((slice : ℕ) → fulls_at desks slice ≡ fulls_at first slice)
      → AllMetFull places desks now → AllMetFull places first now
  met_full_since places first desks now same met slot slice waits =
      subst (λ (n : ℕ). Rises n (fulls_at now slice)) (same slice) (met slot slice waits)

pub none_left : (serving : List ℕ) → length serving ≡ 0 → serving ≡ []
none_left [] none = refl
none_left (x ∷ xs) none = absurd (omega arith)
