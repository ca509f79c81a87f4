-- What a step leaves of the list of the slots that have something to give.
use Rattle.std.proofs.Common.{◌≡◌, ◌≢◌, ℕ, ◌+◌, ◌<◌, ◌≤◌, Bool, true, false, true≢false, not, List, []}
use Rattle.std.proofs.Common.{length, set, get_or, refl, sym, ap, ◌∙◌, subst, arith}
use Rattle.std.specs.Prelude.{nat_eq, ◌&&◌, ◌||◌, is_some, Option, Some, None, Result, filter}
use Rattle.std.proofs.lemmas.Bool.{eqb-true, eqb-false, ne_eqb}
use Rattle.std.proofs.lemmas.List.{length-set}
use Rattle.worker_core.specs.DataDesks.{DataDesk}
use Rattle.worker_core.specs.Counts.{Rises, Lasts}
use Rattle.worker_core.specs.Desks.{fulls_at}
use Rattle.worker_core.proofs.Rising.{rises_then, then_rises}
use Rattle.migration.specs.declared.data_place.DataPlace.{DataPlace}
use Rattle.migration.specs.declared.data_place.DataState.{DataState}
use Rattle.migration.specs.declared.data_place.DataState.TheVariants.{Front, Placed, Recall, Leaving}
use Rattle.migration.specs.declared.data_place.DataNo.{DataNo}
use Rattle.migration.specs.DataPlaces.{place_at, state_at, queue_at, is_due, is_placed, parks_at, waits_for}
use Rattle.migration.specs.DataPlaces.{placed_at}
use Rattle.migration.specs.DataDue.{is_among, is_rising, Joins, Lists}
use Rattle.migration.specs.DataSteps.{Gave, Serves}
use Rattle.migration.proofs.DataRising.{to_higher, kept_rising, kept_among, among_at, among_below}
use Rattle.migration.proofs.DataPasses.{at_new, at_old, Waits, Queues}

abbrev Places : Type 0 → Type 0 → Type 0
Places H I = List (Option (DataPlace H I))

no_number : (n : ℕ) → ◌≡◌ {A = Option ℕ} None (Some n) → ⊥
no_number n is = let none : ⊥ = cc in none

some_items : (n : ℕ) → 0 < n → not (nat_eq n 0) ≡ true
some_items n some = let apart : n ≢ 0 = omega arith in ap not (ne_eqb n 0 apart)

or_true : (a b : Bool) → b ≡ true → (a || b) ≡ true
or_true true b is = refl
or_true false b is = is

module _ {H : Type 0} where
  -- whether a half in this state has something to give, where so many items wait
  abbrev gives : DataState H → ℕ → Bool
  gives state n = is_some (waits_for state) || (is_placed state && not (nat_eq n 0))

  order_gives : (state : DataState H) (n : ℕ) → is_some (waits_for state) ≡ true → gives state n ≡ true
  order_gives state n waits = ap (λ b. b || (is_placed state && not (nat_eq n 0))) waits

  items_give : (state : DataState H) (n slice : ℕ) → placed_at state ≡ Some slice → 0 < n → gives state n ≡ true
  items_give (Front half to) n slice is some = absurd (no_number slice is)
  items_give (Placed at) n slice is some = some_items n some
  items_give (Recall at to) n slice is some = absurd (no_number slice is)
  items_give (Leaving from to) n slice is some = absurd (no_number slice is)

module _ {H I : Type 0} where
  -- what waits for a lane, or is placed with items left, is due
  pub waits_due : (place : Option (DataPlace H I)) (slice : ℕ) → Waits place slice → is_due place ≡ true
  waits_due None slice is = absurd (no_number slice is)
  waits_due (Some place) slice is = order_gives place.state (length place.queue.items) (ap is_some is)

  pub queues_due : (place : Option (DataPlace H I)) (slice : ℕ) → Queues place slice → is_due place ≡ true
  queues_due None slice is = absurd (no_number slice is.0)
  queues_due (Some place) slice is = items_give place.state (length place.queue.items) slice is.0 is.1

  pub lists_none : (places : Places H I) (due : List ℕ) → places ≡ [] → due ≡ [] → Lists places due
  lists_none places due no_place none = record {
    rising = ap (is_rising 0 (length places)) none;
    all = λ slot due_here. absurd (true≢false (sym due_here ∙ ap (λ l. is_due (place_at l slot)) no_place));
  }

  -- one place is new
  pub lists_step : (places new : Places H I) (place : Option (DataPlace H I)) (s : ℕ) (due later : List ℕ)
      → s < length places → new ≡ set places s place → Lists places due → is_rising 0 (length places) later ≡ true
      → ((t : ℕ) → is_among t due ≡ true → is_among t later ≡ true)
      → (is_due place ≡ true → is_among s later ≡ true) → Lists new later
  lists_step places new place s due later within made lists rising others here = record {
    rising = subst (λ (n : ℕ). is_rising 0 n later ≡ true) (sym (ap length made ∙ length-set places s place)) rising;
    all = λ t due_here. elim (nat_eq t s) as (λ b. nat_eq t s ≡ b → is_among t later ≡ true) [
      | true ↦ λ e. subst (λ (n : ℕ). is_among n later ≡ true) (sym (eqb-true t s e))
          (here (sym (ap is_due (at_new places new place s within made))
          ∙ ap (λ n. is_due (place_at new n)) (sym (eqb-true t s e)) ∙ due_here))
      | false ↦ λ e. others t (lists.all t
          (sym (ap is_due (at_old places new place s t (eqb-false t s e) made)) ∙ due_here))
    ] refl;
  }

  -- a step at a slot that is listed
  pub lists_among : (places new : Places H I) (place : Option (DataPlace H I)) (s : ℕ) (due : List ℕ)
      → s < length places → new ≡ set places s place → Lists places due → is_among s due ≡ true → Lists new due
  lists_among places new place s due within made lists among =
      lists_step places new place s due due within made lists lists.rising (λ t is. is) (λ due_here. among)

  -- a step that makes no slot due
  pub lists_quiet : (places new : Places H I) (place : Option (DataPlace H I)) (s : ℕ) (due : List ℕ)
      → s < length places → new ≡ set places s place → Lists places due
      → (is_due place ≡ true → is_due (place_at places s) ≡ true) → Lists new due
  lists_quiet places new place s due within made lists quiet =
      lists_step places new place s due due within made lists lists.rising (λ t is. is)
      (λ due_here. lists.all s (quiet due_here))

  -- a step whose slot joins the list
  pub lists_joined : (places new : Places H I) (place : Option (DataPlace H I)) (s : ℕ) (joins : Bool)
      (due later : List ℕ) → s < length places → new ≡ set places s place → Lists places due
      → (is_due place ≡ true → joins ≡ true) → Joins joins s (length places) due later → Lists new later
  lists_joined places new place s joins due later within made lists told joined =
      lists_step places new place s due later within made lists joined.rising joined.others (λ is. joined.here (told is))

  -- there are free places more
  pub lists_grown : (places new : Places H I) (due : List ℕ) → length places ≤ length new
      → ((s : ℕ) → place_at new s ≡ place_at places s) → Lists places due → Lists new due
  lists_grown places new due long same lists = record {
    rising = to_higher 0 (length places) (length new) due long lists.rising;
    all = λ slot due_here. lists.all slot (sym (ap is_due (same slot)) ∙ due_here);
  }

  -- those that rest were dropped
  pub lists_kept : (places : Places H I) (due later : List ℕ)
      → later ≡ filter (λ slot. is_due (place_at places slot)) due → Lists places due → Lists places later
  lists_kept places due later kept lists =
      let p : ℕ → Bool = λ slot. is_due (place_at places slot) in record {
        rising = ap (λ l. is_rising 0 (length places) l) kept ∙ kept_rising p 0 (length places) due lists.rising;
        all = λ slot due_here. ap (is_among slot) kept ∙ kept_among p slot due (lists.all slot due_here) due_here;
      }

  -- a listed slot has a place
  pub listed_within : (places : Places H I) (due : List ℕ) (s : ℕ) → Lists places due → is_among s due ≡ true
      → s < length places
  listed_within places due s lists among = among_below s 0 (length places) due lists.rising among

-- a slot that is due after an item was given was due before
module _ {H I : Type 0} (slot_of : H → ℕ) (item_slot : I → ℕ) (handled : H → List I) (s : ℕ) where
  and_true : (a b : Bool) → (a && b) ≡ true → b ≡ true
  and_true true b is = is
  and_true false b is = absurd (true≢false (sym is))

  served_due : (before after : DataPlace H I) (desks now : List (DataDesk H I))
      → Serves s before.state after.state desks now → after.queue.items ≡ before.queue.items
      → is_due (Some after) ≡ true → is_due (Some before) ≡ true
  served_due before after desks now serves queue due = by_state before.state serves refl where
    by_state : (state : DataState H) → Serves s state after.state desks now → before.state ≡ state
        → is_due (Some before) ≡ true
    by_state (Front half to) serves was =
        order_gives before.state (length before.queue.items) (ap (λ x. is_some (waits_for x)) was)
    by_state (Placed at) serves was =
        ap (λ (x : DataState H). gives x (length before.queue.items)) (was ∙ sym serves.0)
        ∙ ap (λ (q : List I). gives after.state (length q)) (sym queue) ∙ due
    by_state (Recall at to) serves was =
        order_gives before.state (length before.queue.items) (ap (λ x. is_some (waits_for x)) was)
    by_state (Leaving from to) serves was = absurd (true≢false
        (sym due ∙ ap (λ (x : DataState H). gives x (length after.queue.items)) serves.0))

  -- the same, of the state at a place
  abbrev gives_at : Option (DataState H) → ℕ → Bool
  gives_at None n = false
  gives_at (Some state) n = gives state n

  parked_due : (before after : DataPlace H I) → parks_at (Some before) ≡ true
      → ◌≡◌ {A = Option (DataState H)} (Some after.state) (Some before.state)
      → is_due (Some after) ≡ true → is_due (Some before) ≡ true
  parked_due before after parks same due = by_state before.state refl where
    by_state : (state : DataState H) → before.state ≡ state → is_due (Some before) ≡ true
    by_state (Front half to) was =
        order_gives before.state (length before.queue.items) (ap (λ x. is_some (waits_for x)) was)
    by_state (Placed at) was =
        ap (λ (x : DataState H). gives x (length before.queue.items)) was
        ∙ sym (ap (λ (x : DataState H). not (is_placed x) || not (nat_eq (length before.queue.items) 0)) was)
        ∙ and_true before.moved (not (is_placed before.state) || not (nat_eq (length before.queue.items) 0)) parks
    by_state (Recall at to) was =
        order_gives before.state (length before.queue.items) (ap (λ x. is_some (waits_for x)) was)
    by_state (Leaving from to) was = absurd (true≢false
        (sym due ∙ ap (λ (x : Option (DataState H)). gives_at x (length after.queue.items)) same
        ∙ ap (λ (x : DataState H). gives x (length after.queue.items)) was))

  pub gave_due : (room : ℕ) (item : I) (answer : Result Bool (DataNo I)) (place new : Option (DataPlace H I))
      (desks now : List (DataDesk H I)) → Gave slot_of item_slot handled s room item answer place new desks now
      → is_due new ≡ true → is_due place ≡ true
  gave_due room item answer None new desks now gave due =
      absurd (true≢false (sym due ∙ ap is_due gave.keeps.0))
  gave_due room item answer (Some before) new desks now gave due =
      elim (parks_at (Some before)) as (λ b. parks_at (Some before) ≡ b → is_due (Some before) ≡ true) [
        | true ↦ λ e.
            let after = gave.keeps.0 in
            let is : new ≡ Some after = gave.keeps.1 in
            parked_due before after e (sym (ap state_at is) ∙ gave.stays e) (sym (ap is_due is) ∙ due)
        | false ↦ λ e.
            let p = gave.placed e in
            let is : new ≡ Some p.1.0 = p.1.1 in
            served_due before p.1.0 desks p.1.2.mid p.1.2.serves (sym (ap queue_at is) ∙ p.0)
            (sym (ap is_due is) ∙ due)
      ] refl

-- the listed places below an index that are such for a slice met a full lane there
module _ {H I : Type 0} where
  abbrev pub MeetsListed : (Option (DataPlace H I) → ℕ → Type 0) → ℕ → List ℕ → Places H I
      → List (DataDesk H I) → List (DataDesk H I) → Type 0
  MeetsListed Q at due places first now = (k slice : ℕ) → k < at → Q (place_at places (get_or due k 0)) slice
      → Rises (fulls_at first slice) (fulls_at now slice)

  pub listed_none : (Q : Option (DataPlace H I) → ℕ → Type 0) (due : List ℕ) (places : Places H I)
      (desks : List (DataDesk H I)) → MeetsListed Q 0 due places desks desks
  listed_none Q due places desks k slice low is = absurd (omega arith)

  pub listed_more : (Q : Option (DataPlace H I) → ℕ → Type 0) (at s : ℕ) (due : List ℕ) (places new : Places H I)
      (place : Option (DataPlace H I)) (first desks now : List (DataDesk H I))
      → get_or due at 0 ≡ s → s < length places → new ≡ set places s place
      → ((d : ℕ) → Lasts (fulls_at first d) (fulls_at desks d))
      → ((d : ℕ) → Lasts (fulls_at desks d) (fulls_at now d))
      → ((slice : ℕ) → Q place slice → Rises (fulls_at desks slice) (fulls_at now slice))
      → MeetsListed Q at due places first desks → MeetsListed Q (at + 1) due new first now
  listed_more Q at s due places new place first desks now this within made earlier later again met k slice low is =
      let t : ℕ = get_or due k 0 in
      elim (nat_eq t s) as (λ b. nat_eq t s ≡ b → Rises (fulls_at first slice) (fulls_at now slice)) [
        | true ↦ λ e.
            let here = subst (λ (n : ℕ). Q (place_at new n) slice) (eqb-true t s e) is in
            then_rises (fulls_at first slice) (fulls_at desks slice) (fulls_at now slice) (earlier slice)
            (again slice (subst (λ (p : Option (DataPlace H I)). Q p slice) (at_new places new place s within made)
            here))
        | false ↦ λ e.
            let apart : t ≢ s = eqb-false t s e in
            let other : k ≢ at = λ same. apart (ap (λ n. get_or due n 0) same ∙ this) in
            rises_then (fulls_at first slice) (fulls_at desks slice) (fulls_at now slice)
            (met k slice (omega arith) (subst (λ (p : Option (DataPlace H I)). Q p slice)
            (at_old places new place s t apart made) is)) (later slice)
      ] refl

  pub listed_all : (Q : Option (DataPlace H I) → ℕ → Type 0) (places : Places H I) (due : List ℕ)
      (first now : List (DataDesk H I)) (at : ℕ) → length due ≤ at → Lists places due
      → ((place : Option (DataPlace H I)) (slice : ℕ) → Q place slice → is_due place ≡ true)
      → MeetsListed Q at due places first now → (t slice : ℕ) → Q (place_at places t) slice
      → Rises (fulls_at first slice) (fulls_at now slice)
  listed_all Q places due first now at all lists due_here met t slice is =
      let there = among_at t due (lists.all t (due_here (place_at places t) slice is)) in
      met there.0 slice (let a = there.1 in omega arith)
      (subst (λ (n : ℕ). Q (place_at places n) slice) (sym there.2) is)
