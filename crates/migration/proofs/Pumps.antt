-- That halves come home before orders are offered, and that these are offered by slot.
use Rattle.std.proofs.Common.{◌≡◌, ℕ, zero, suc, ◌+◌, ◌-◌, ◌<◌, ◌≤◌, inl, inr, Bool, true, false, true≢false, cond}
use Rattle.std.proofs.Common.{List, [], ◌∷◌, ◌++◌, reverse, length, set, get_or, refl, sym, ap, ◌∙◌, subst, arith}
use Rattle.std.proofs.Common.{append-nil, append_assoc, length-append}
use Rattle.std.specs.Prelude.{nat_eq, nat_lt, Option, None}
use Rattle.std.specs.List.{sum_by, Contains}
use Rattle.std.specs.List.Sorted.{IsNonDecreasing, IsStrictlyIncreasing}
use Rattle.std.proofs.lemmas.List.{get_or-set_same, get_or-set_other, reverse-append, reverse-reverse}
use Rattle.std.proofs.lemmas.List.Elements.{All-from_get_or}
use Rattle.std.proofs.lemmas.List.Sorted.{IsPermutation-reverse, sum_by-IsPermutation}
use Rattle.std.proofs.lemmas.List.Sums.{sum_by-cons, get_or-le-sum_by}
use Rattle.std.proofs.lemmas.Bool.{eq-eqb}
use borrow.Author.Tests.{eqb-true, eqb-false, ltb-true, ltb-false}
use Rattle.worker_core.specs.Desks.{Desk}
use Rattle.migration.specs.declared.place.ControlPlace.{ControlPlace}
use Rattle.worker_core.specs.Desks.{Taken, Empty}
use Rattle.migration.specs.Places.{place_at, is_waiting, is_waiting_at, wait_weight}
use Rattle.migration.specs.Steps.{ServedAt, Welcomes}
use Rattle.migration.specs.Sides.{IsSide}
use Rattle.migration.specs.Words.{ServedNext}
use Rattle.migration.specs.Pumps.{orders_of, CameHome, TakesHome, LinedUp, NoneWaits, ServesEach}
use Rattle.worker_core.proofs.AtDesks.{changed_map}
use Rattle.migration.proofs.SideSteps.{at_slot, wait_weight_is}
use Rattle.migration.proofs.PlaceSteps.{on, queued_here, waiting_within, leaving_idle}

module _ {H : Type 0} where
  -- no place changed
  pub takes_none : (places new : List (Option (ControlPlace H))) (desks now : List (Desk H)) → new ≡ places
      → orders_of now ≡ orders_of desks → TakesHome places new desks now
  takes_none places new desks now same orders = record {
    came = λ slot. inl (ap (λ l. place_at l slot) same);
    orders = orders;
  }

  pub takes_empty : (slice : ℕ) (places : List (Option (ControlPlace H))) (desks now : List (Desk H))
      → Empty slice desks now → TakesHome places places desks now
  takes_empty slice places desks now none = takes_none places places desks now refl
      (changed_map slice none.before none.now desks now none.desk (λ (desk : Desk H). desk.orders) none.orders)

  taken_orders : (slice : ℕ) (half : H) (desks now : List (Desk H)) → Taken slice half desks now
      → orders_of now ≡ orders_of desks
  taken_orders slice half desks now took =
      changed_map slice took.before took.now desks now took.desk (λ (desk : Desk H). desk.orders) took.orders

  pub takes_aside : (slice : ℕ) (half : H) (places new : List (Option (ControlPlace H))) (desks now : List (Desk H))
      → Taken slice half desks now → new ≡ places → TakesHome places new desks now
  takes_aside slice half places new desks now took same =
      takes_none places new desks now same (taken_orders slice half desks now took)

  pub takes_half : (slice slot : ℕ) (half : H) (place : Option (ControlPlace H)) (places new : List (Option (ControlPlace H)))
      (desks now : List (Desk H)) → Taken slice half desks now → slot < length places → new ≡ set places slot place
      → Welcomes half (place_at places slot) place None → TakesHome places new desks now
  takes_half slice slot half place places new desks now took within is welcomes = record {
    came = λ k. subst (λ (l : List (Option (ControlPlace H))). CameHome (place_at places k) (place_at l k)) (sym is)
        (elim (nat_eq k slot) as (λ b. nat_eq k slot ≡ b
        → CameHome (place_at places k) (place_at (set places slot place) k)) [
          | true ↦ λ e. subst (λ (n : ℕ). CameHome (place_at places n) (place_at (set places slot place) n))
              (sym (eqb-true k slot e))
              (subst (CameHome (place_at places slot)) (sym (get_or-set_same places slot place None within))
              (inr (half, welcomes)))
          | false ↦ λ e. inl (get_or-set_other places slot k place None (eqb-false k slot e))
        ] refl);
    orders = taken_orders slice half desks now took;
  }

  came_then : (a b c : Option (ControlPlace H)) → CameHome a b → CameHome b c → CameHome a c
  came_then a b c first second = elim first [
    | inl same ↦ subst (λ (x : Option (ControlPlace H)). CameHome x c) same second
    | inr came ↦ elim second [
      | inl same ↦ inr (came.0, subst (λ (x : Option (ControlPlace H)). Welcomes came.0 a x None) (sym same) came.1)
      | inr again ↦ absurd (true≢false (sym (front came.0 came.1) ∙ (leaving_idle again.0 b c again.1).1))
    ]
  ] where
    front : (half : H) → Welcomes half a b None → is_waiting_at b ≡ true
    front half welcomes = ap is_waiting_at welcomes.3 ∙ ap is_waiting welcomes.6.3

  -- one after another
  pub takes_then : (p0 p1 p2 : List (Option (ControlPlace H))) (d0 d1 d2 : List (Desk H)) → TakesHome p0 p1 d0 d1
      → TakesHome p1 p2 d1 d2 → TakesHome p0 p2 d0 d2
  takes_then p0 p1 p2 d0 d1 d2 first second = record {
    came = λ slot. came_then (place_at p0 slot) (place_at p1 slot) (place_at p2 slot) (first.came slot)
        (second.came slot);
    orders = second.orders ∙ first.orders;
  }

  pub takes_same : (p0 p1 p2 : List (Option (ControlPlace H))) (d0 d1 d2 : List (Desk H)) → TakesHome p0 p1 d0 d1 → p2 ≡ p1
      → d2 ≡ d1 → TakesHome p0 p2 d0 d2
  takes_same p0 p1 p2 d0 d1 d2 takes same alike =
      takes_then p0 p1 p2 d0 d1 d2 takes (takes_none p1 p2 d1 d2 same (ap orders_of alike))

-- none waits
module _ {H : Type 0} where
  pub still_none : (waiting : List ℕ) (places : List (Option (ControlPlace H))) → NoneWaits waiting waiting places places
  still_none waiting places none = (none, refl)

  pub still_same : (waiting : List ℕ) (places new : List (Option (ControlPlace H))) → new ≡ places
      → NoneWaits waiting waiting places new
  still_same waiting places new same none = (none, same)

  pub still_came : (waiting new_waiting : List ℕ) (slot : ℕ) (places new : List (Option (ControlPlace H)))
      → new_waiting ≡ waiting ++ slot ∷ [] → NoneWaits waiting new_waiting places new
  still_came waiting new_waiting slot places new is none =
      let some = length-append waiting (slot ∷ []) in
      let long = ap length (sym is ∙ none) in
      absurd (omega arith)

  pub still_then : (w0 w1 w2 : List ℕ) (p0 p1 p2 : List (Option (ControlPlace H))) → NoneWaits w0 w1 p0 p1
      → NoneWaits w1 w2 p1 p2 → NoneWaits w0 w2 p0 p2
  still_then w0 w1 w2 p0 p1 p2 first second none =
      let late = second none in
      let early = first late.0 in (early.0, late.1 ∙ early.1)

-- a slot weighs 1 where its own weight is asked
on_one : (slot k : ℕ) → k ≡ slot → on slot k ≡ 1
on_one slot k same = ap (λ t. cond t 1 0) (eq-eqb k slot same)

on_none : (slot k : ℕ) → nat_eq k slot ≡ false → on slot k ≡ 0
on_none slot k apart = ap (λ t. cond t 1 0) apart

-- what weighs no more than its place on the weight of one slot weighs 1 at most, and nothing behind that slot
once : {X : Type 0} (f : X → ℕ) (d : X) (xs : List X) (first slot : ℕ)
    → ((k : ℕ) → f (get_or xs k d) ≤ on slot (first + k)) → sum_by f xs ≤ 1 - (first - slot)
once f d [] first slot low = omega arith
once f d (x ∷ xs) first slot low =
    let next = once f d xs (first + 1) slot (λ k. let e : first + suc k ≡ first + 1 + k = omega arith in
    subst (λ (n : ℕ). f (get_or xs k d) ≤ on slot n) e (low (suc k))) in
    let s = sum_by-cons f x xs in
    let here : f x ≤ on slot first = let e : first + 0 ≡ first = omega arith in
    subst (λ (n : ℕ). f x ≤ on slot n) e (low 0) in
    elim (nat_eq first slot) as (λ b. nat_eq first slot ≡ b → sum_by f (x ∷ xs) ≤ 1 - (first - slot)) [
      | true ↦ λ e. let same : first ≡ slot = eqb-true first slot e in let c = on_one slot first same in omega arith
      | false ↦ λ e. let c = on_none slot first e in omega arith
    ] refl

-- a slot that weighs something in a list stands there
found : (slot : ℕ) (xs : List ℕ) → 0 < sum_by (on slot) xs → Contains xs slot
found slot [] some = absurd (omega arith)
found slot (x ∷ xs) some = elim (nat_eq x slot) as (λ b. nat_eq x slot ≡ b → Contains (x ∷ xs) slot) [
  | true ↦ λ e. (0, (omega arith), eqb-true x slot e)
  | false ↦ λ e.
      let s = sum_by-cons (on slot) x xs in
      let c = on_none slot x e in
      let there = found slot xs (omega arith) in (suc there.0, (let a = there.1 in omega arith), there.2)
] refl

-- a slot that stands twice weighs 2
twice : (slot : ℕ) (xs : List ℕ) (k : ℕ) → suc k < length xs → get_or xs k 0 ≡ slot → get_or xs (suc k) 0 ≡ slot
    → 2 ≤ sum_by (on slot) xs
twice slot [] k within a b = absurd (omega arith)
twice slot (x ∷ []) k within a b = absurd (omega arith)
twice slot (x ∷ y ∷ ys) zero within a b =
    let s = sum_by-cons (on slot) x (y ∷ ys) in let t = sum_by-cons (on slot) y ys in
    let c = on_one slot x a in let d = on_one slot y b in omega arith
twice slot (x ∷ y ∷ ys) (suc k) within a b =
    let s = sum_by-cons (on slot) x (y ∷ ys) in let h = twice slot (y ∷ ys) k (omega arith) a b in omega arith

rising_once : (xs : List ℕ) → IsNonDecreasing xs → ((slot : ℕ) → sum_by (on slot) xs ≤ 1) → IsStrictlyIncreasing xs
rising_once xs rises few k within =
    let x = get_or xs k 0 in
    let y = get_or xs (k + 1) 0 in
    let low : x ≤ y = rises k (k + 1) 0 (omega arith) within in
    elim (nat_lt x y) as (λ b. nat_lt x y ≡ b → x < y) [
      | true ↦ λ e. ltb-true x y e
      | false ↦ λ e. absurd (
          let high : y ≤ x = ltb-false x y e in
          let same : y ≡ x = omega arith in
          let next : k + 1 ≡ suc k = omega arith in
          let two = twice x xs k (omega arith) refl (ap (λ n. get_or xs n 0) (sym next) ∙ same) in
          let one = few x in omega arith)
    ] refl

module _ {H N : Type 0} (name : H → N) (slot_of : N → ℕ) where
  waits_once : (places : List (Option (ControlPlace H))) (aside : List H) (desks : List (Desk H)) (waiting serving : List ℕ)
      (admitted asked : ℕ) → IsSide name slot_of places aside desks waiting serving admitted asked
      → (slot : ℕ) → sum_by (wait_weight name slot_of (on slot)) places ≤ 1
  waits_once places aside desks waiting serving admitted asked side slot =
      let f : Option (ControlPlace H) → ℕ = wait_weight name slot_of (on slot) in
      let few = once f None places 0 slot (λ k.
      let e : 0 + k ≡ k = omega arith in
      let a = wait_weight_is name slot_of (on slot) k (place_at places k) (at_slot name slot_of places side.slots k) in
      let b = no_more (is_waiting_at (place_at places k)) (on slot k) in
      subst (λ (n : ℕ). f (place_at places k) ≤ on slot n) (sym e) (omega arith)) in omega arith where
        no_more : (b : Bool) (n : ℕ) → cond b n 0 ≤ n
        no_more true n = omega arith
        no_more false n = omega arith

  -- once all that wait are to be served, these are just the slots that wait
  pub lined_up : (places : List (Option (ControlPlace H))) (aside : List H) (desks : List (Desk H))
      (waiting serving new_serving : List ℕ) (admitted asked : ℕ)
      → IsSide name slot_of places aside desks waiting serving admitted asked
      → ((w : ℕ → ℕ) → sum_by w new_serving ≡ sum_by w waiting + sum_by w serving)
      → IsNonDecreasing (reverse new_serving) → LinedUp places (reverse new_serving)
  lined_up places aside desks waiting serving new_serving admitted asked side all rises =
      let slots : List ℕ = reverse new_serving in
      let so_many : (slot : ℕ) → sum_by (on slot) slots ≡ sum_by (wait_weight name slot_of (on slot)) places =
      λ slot.
      let a = sum_by-IsPermutation (on slot) new_serving slots (IsPermutation-reverse new_serving) in
      let b = side.queued (on slot) in
      let c = all (on slot) in omega arith in record {
        rising = rising_once slots rises (λ slot.
            let a = so_many slot in
            let b = waits_once places aside desks waiting serving admitted asked side slot in omega arith);
        waiting = All-from_get_or (λ slot. is_waiting_at (place_at places slot) ≡ true) slots 0 (λ k within.
            let slot : ℕ = get_or slots k 0 in
            let a = get_or-le-sum_by (on slot) slots k 0 within in
            let b = on_one slot slot refl in
            let c = so_many slot in queued_here name slot_of places slot side.slots (omega arith));
        all = λ slot waits.
            let f : Option (ControlPlace H) → ℕ = wait_weight name slot_of (on slot) in
            let within = waiting_within name slot_of places slot waits in
            let a = get_or-le-sum_by f places slot None within in
            let b = wait_weight_is name slot_of (on slot) slot (place_at places slot)
            (at_slot name slot_of places side.slots slot) in
            let c = ap (λ t. cond t (on slot slot) 0) waits in
            let d = on_one slot slot refl in
            let e = so_many slot in found slot slots (omega arith);
      }

module _ {H N : Type 0} (name : H → N) (hop_of : H → ℕ) where
  serves_more : (slots : List ℕ) (slot : ℕ) (waits : Bool) (p0 p1 p2 : List (Option (ControlPlace H)))
      (d0 d1 d2 : List (Desk H)) → ServesEach name hop_of slots p0 p1 d0 d1
      → ServedAt name hop_of slot waits p1 p2 d1 d2 → ServesEach name hop_of (slots ++ slot ∷ []) p0 p2 d0 d2
  serves_more [] slot waits p0 p1 p2 d0 d1 d2 done next = (
    waits,
    p2,
    d2,
    subst (λ (p : List (Option (ControlPlace H)) × List (Desk H)). ServedAt name hop_of slot waits p.0 p2 p.1 d2)
        (λ i. (done.0 i, done.1 i)) next,
    (refl, refl),
  )
  serves_more (x ∷ slots) slot waits p0 p1 p2 d0 d1 d2 done next = (
    done.0,
    done.1,
    done.2,
    done.3,
    serves_more slots slot waits done.1 p1 p2 done.2 d1 d2 done.4 next,
  )

  -- some at the end of a list were served
  abbrev pub Served : List ℕ → List ℕ → List (Option (ControlPlace H)) → List (Option (ControlPlace H)) → List (Desk H)
      → List (Desk H) → Type 0
  Served serving now_serving places new_places desks now =
      (done : List ℕ) × (serving ≡ now_serving ++ reverse done)
      × ServesEach name hop_of done places new_places desks now

  pub served_none : (serving : List ℕ) (places : List (Option (ControlPlace H))) (desks : List (Desk H))
      → Served serving serving places places desks desks
  served_none serving places desks = ([], sym (append-nil serving), (refl, refl))

  pub served_more : (serving now_serving new_serving : List ℕ) (p0 p1 p2 : List (Option (ControlPlace H)))
      (d0 d1 d2 : List (Desk H)) → Served serving now_serving p0 p1 d0 d1
      → ServedNext name hop_of now_serving new_serving p1 p2 d1 d2 → Served serving new_serving p0 p2 d0 d2
  served_more serving now_serving new_serving p0 p1 p2 d0 d1 d2 had next = (
    had.0 ++ next.slot ∷ [],
    had.1 ∙ ap (λ l. l ++ reverse had.0) next.next ∙ append_assoc new_serving (next.slot ∷ []) (reverse had.0)
        ∙ ap (λ l. new_serving ++ l) (sym (reverse-append had.0 (next.slot ∷ []))),
    serves_more had.0 next.slot next.waits p0 p1 p2 d0 d1 d2 had.2 next.served,
  )

  pub served_all : (serving now_serving : List ℕ) (places new_places : List (Option (ControlPlace H)))
      (desks now : List (Desk H)) → Served serving now_serving places new_places desks now → now_serving ≡ []
      → ServesEach name hop_of (reverse serving) places new_places desks now
  served_all serving now_serving places new_places desks now had none =
      let is : reverse serving ≡ had.0 =
      ap reverse (had.1 ∙ ap (λ l. l ++ reverse had.0) none) ∙ reverse-reverse had.0 in
      subst (λ (slots : List ℕ). ServesEach name hop_of slots places new_places desks now) (sym is) had.2
