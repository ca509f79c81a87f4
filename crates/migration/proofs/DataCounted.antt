-- How many slots are leaving each slice, and which lanes home are emptied: those of the slices that a slot is leaving.
use Rattle.std.proofs.Common.{◌≡◌, ◌≢◌, ℕ, zero, suc, ◌+◌, ◌*◌, ◌<◌, ◌≤◌, Bool, true, false, true≢false, cond, List, [], ◌∷◌}
use Rattle.std.proofs.Common.{◌++◌, inl, inr, length, replicate, set, get_or, is_some, refl, sym, ap, ◌∙◌, subst, arith}
use Rattle.std.specs.Prelude.{nat_lt, count_by, Option, Some, None, Result}
use Rattle.std.proofs.lemmas.Bool.{eq-eqb, ne_eqb, lt-ltb, ltb-true, ltb-false}
use Rattle.std.proofs.lemmas.List.{get_or_past}
use Rattle.std.proofs.lemmas.List.Folds.{sum_by-replicate}
use Rattle.std.proofs.lemmas.List.Sums.{sum_by-set, sum_by-cons, sum_by-append, get_or-le-sum_by}
use Rattle.worker_core.specs.declared.desks.LaneDesk.{LaneDesk}
use Rattle.worker_core.specs.Homes.{TookFrom}
use Rattle.worker_core.proofs.Homes.{TakenBelow, below_more, below_passed}
use Rattle.worker_core.specs.DataDesks.{DataDesk}
use Rattle.migration.specs.declared.data_leavers.Leavers.{Leavers}
use Rattle.migration.specs.declared.data_place.DataPlace.{DataPlace}
use Rattle.migration.specs.declared.data_place.DataState.{DataState}
use Rattle.migration.specs.declared.data_place.DataState.TheVariants.{Front, Placed, Recall, Leaving}
use Rattle.migration.specs.declared.data_place.DataNo.{DataNo}
use Rattle.migration.specs.DataPlaces.{place_at, state_at, leaves, is_admitted, is_due, is_settled, parks_at, Fits}
use Rattle.migration.specs.DataDue.{is_among, Lists}
use Rattle.migration.specs.DataLeavers.{is_at, one_if, leavers_of, is_left, Counts, Shifts}
use Rattle.migration.specs.DataPumps.{NoneLeaves}
use Rattle.migration.specs.DataSteps.{Gave, Serves, Welcomes}
use Rattle.migration.proofs.DataTables.{rests_there}
use Rattle.migration.proofs.DataPasses.{at_new}

abbrev Places : Type 0 → Type 0 → Type 0
Places H I = List (Option (DataPlace H I))

-- none is counted at first
pub none_counted : (n slice : ℕ) → ◌≡◌ {A = ℕ} (get_or (replicate n 0) slice 0) 0
none_counted zero slice = refl
none_counted (suc n) zero = refl
none_counted (suc n) (suc slice) = none_counted n slice

one_is : (b : Bool) → cond b 1 0 ≡ one_if b
one_is true = refl
one_is false = refl

here : (slice : ℕ) (at : Option ℕ) → at ≡ Some slice → is_at slice at ≡ true
here slice at is = ap (is_at slice) is ∙ eq-eqb slice slice refl

away : (slice : ℕ) (at : Option ℕ) → at ≢ Some slice → is_at slice at ≡ false
away slice None never = refl
away slice (Some at) never = ne_eqb at slice (λ same. never (ap (λ n. Some n) same))

-- whatever is counted of each slot's state
module _ {H I : Type 0} (p : Option ℕ → Bool) where
  abbrev counted : Places H I → ℕ
  counted places = count_by (λ (place : Option (DataPlace H I)). p (leaves (state_at place))) places

  abbrev weight : Option (DataPlace H I) → ℕ
  weight place = cond (p (leaves (state_at place))) 1 0

  -- one place is new
  counted_set : (places new : Places H I) (place : Option (DataPlace H I)) (s : ℕ) → s < length places
      → new ≡ set places s place
      → counted new + one_if (p (leaves (state_at (place_at places s))))
      ≡ counted places + one_if (p (leaves (state_at place)))
  counted_set places new place s within made =
      let a = sum_by-set weight places s place None within in
      let b = one_is (p (leaves (state_at (place_at places s)))) in
      let c = one_is (p (leaves (state_at place))) in
      let d : counted new ≡ counted (set places s place) = ap counted made in
      omega arith

  -- there are free places more
  counted_grown : (places : Places H I) (more : ℕ) → p None ≡ false
      → counted (places ++ replicate more None) ≡ counted places
  counted_grown places more none =
      let a = sum_by-append weight places (replicate more None) in
      let b = sum_by-replicate weight more None in
      let zero_there : weight None ≡ 0 = ap (λ b. cond b 1 0) none in
      let c : more * weight None ≡ 0 = ap (λ n. more * n) zero_there ∙ (omega arith) in omega arith

  counted_few : (places : Places H I) → counted places ≤ length places
  counted_few [] = omega arith
  counted_few (place ∷ places) =
      let a = sum_by-cons weight place places in
      let b = counted_few places in
      let c : weight place ≤ 1 = elim (p (leaves (state_at place))) as (λ b. cond b 1 0 ≤ 1) [
        | true ↦ omega arith
        | false ↦ omega arith
      ] in omega arith

  -- a slot of which it holds is counted
  counted_here : (places : Places H I) (s : ℕ) → p None ≡ false
      → p (leaves (state_at (place_at places s))) ≡ true → 0 < counted places
  counted_here places s none is =
      elim (nat_lt s (length places)) as (λ b. nat_lt s (length places) ≡ b → 0 < counted places) [
        | true ↦ λ e.
            let within : s < length places = ltb-true s (length places) e in
            let a = get_or-le-sum_by weight places s None within in
            let b : weight (place_at places s) ≡ 1 = ap (λ b. cond b 1 0) is in omega arith
        | false ↦ λ e.
            let past : length places ≤ s = ltb-false s (length places) e in
            let gone : place_at places s ≡ None = get_or_past places s None past in
            absurd (true≢false (sym is ∙ ap (λ x. p (leaves (state_at x))) gone ∙ none))
      ] refl

  -- where it holds of none, none is counted
  counted_none : (places : Places H I) → ((s : ℕ) → p (leaves (state_at (place_at places s))) ≡ false)
      → counted places ≡ 0
  counted_none [] none = refl
  counted_none (place ∷ places) none =
      let a = sum_by-cons weight place places in
      let b : weight place ≡ 0 = ap (λ b. cond b 1 0) (none 0) in
      let c = counted_none places (λ s. none (suc s)) in omega arith

module _ {H I : Type 0} where
  -- no slot is leaving a slice that none was counted for
  pub none_left : (places : Places H I) (slice : ℕ) → is_left places slice ≡ false → NoneLeaves slice places
  none_left places slice isnt slot is =
      true≢false (sym (lt-ltb 0 (leavers_of slice places) (counted_here (is_at slice) places slot refl
      (here slice (leaves (state_at (place_at places slot))) is))) ∙ isnt)

  pub left_alone : (places : Places H I) (slice : ℕ) → NoneLeaves slice places → is_left places slice ≡ false
  left_alone places slice none = ap (nat_lt 0) (counted_none (is_at slice) places
      (λ s. away slice (leaves (state_at (place_at places s))) (none s)))

  -- of all slots none is leaving
  pub none_leaving : (places : Places H I) (leavers : Leavers) → Counts places leavers → leavers.all ≡ 0
      → (slot : ℕ) → leaves (state_at (place_at places slot)) ≡ None
  none_leaving places leavers counts none slot =
      by_slice (leaves (state_at (place_at places slot))) refl where
        by_slice : (at : Option ℕ) → leaves (state_at (place_at places slot)) ≡ at → at ≡ None
        by_slice None is = refl
        by_slice (Some at) is = absurd (
            let some : 0 < count_by (λ (place : Option (DataPlace H I)). is_some (leaves (state_at place))) places =
            counted_here (λ at. is_some at) places slot refl (ap is_some is) in
            let all = counts.all in omega arith)

  pub counts_none : (places : Places H I) (leavers : Leavers) → places ≡ []
      → ((slice : ℕ) → get_or leavers.at slice 0 ≡ 0) → leavers.all ≡ 0 → Counts places leavers
  counts_none places leavers none each all = record {
    each = λ slice. each slice ∙ sym (ap (leavers_of slice) none);
    all = all ∙ sym (ap (counted (λ at. is_some at)) none);
  }

  pub counts_grown : (places new : Places H I) (more : ℕ) (leavers : Leavers)
      → new ≡ places ++ replicate more None → Counts places leavers → Counts new leavers
  counts_grown places new more leavers grown counts = record {
    each = λ slice. counts.each slice
        ∙ sym (ap (leavers_of slice) grown ∙ counted_grown (is_at slice) places more refl);
    all = counts.all ∙ sym (ap (counted (λ at. is_some at)) grown
        ∙ counted_grown (λ at. is_some at) places more refl);
  }

  -- what was looked up
  pub left_was : (places looked : Places H I) (s : ℕ) (at : Option ℕ) → at ≡ leaves (state_at (place_at looked s))
      → looked ≡ places → at ≡ leaves (state_at (place_at places s))
  left_was places looked s at is same = is ∙ ap (λ (l : Places H I). leaves (state_at (place_at l s))) same

  pub left_is : (places new looked : Places H I) (place : Option (DataPlace H I)) (s : ℕ) (at : Option ℕ)
      → s < length places → new ≡ set places s place → at ≡ leaves (state_at (place_at looked s)) → looked ≡ new
      → at ≡ leaves (state_at place)
  left_is places new looked place s at within made is same =
      left_was new looked s at is same
      ∙ ap (λ (x : Option (DataPlace H I)). leaves (state_at x)) (at_new places new place s within made)

  pub fresh_leaves : (place : Option (DataPlace H I)) → is_admitted place ≡ false → leaves (state_at place) ≡ None
  fresh_leaves None none = refl
  fresh_leaves (Some place) none = absurd (true≢false none)

  -- one place is new, and was counted
  pub counts_step : (places new : Places H I) (place : Option (DataPlace H I)) (s : ℕ) (was is : Option ℕ)
      (old now : Leavers) → s < length places → new ≡ set places s place
      → was ≡ leaves (state_at (place_at places s)) → is ≡ leaves (state_at place)
      → Shifts was is old now → Counts places old → Counts new now
  counts_step places new place s was is old now within made was_so is_so shifts counts = record {
    each = λ slice.
        let a = counted_set (is_at slice) places new place s within made in
        let b = counts.each slice in
        let c = shifts.each slice in
        let d = ap (λ at. one_if (is_at slice at)) was_so in
        let e = ap (λ at. one_if (is_at slice at)) is_so in omega arith;
    all =
        let a = counted_set (λ at. is_some at) places new place s within made in
        let b = counts.all in
        let c = shifts.all in
        let d = ap (λ (at : Option ℕ). one_if (is_some at)) was_so in
        let e = ap (λ (at : Option ℕ). one_if (is_some at)) is_so in omega arith;
  }

  -- no place is new
  pub counts_kept : (places new : Places H I) (leavers : Leavers) → new ≡ places → Counts places leavers
      → Counts new leavers
  counts_kept places new leavers same counts = subst (λ (l : Places H I). Counts l leavers) (sym same) counts

  -- one place is new, whose slot leaves what it left
  pub counts_same : (places new : Places H I) (place : Option (DataPlace H I)) (s : ℕ) (leavers : Leavers)
      → s < length places → new ≡ set places s place
      → leaves (state_at place) ≡ leaves (state_at (place_at places s)) → Counts places leavers → Counts new leavers
  counts_same places new place s leavers within made same counts =
      counts_step places new place s (leaves (state_at (place_at places s))) (leaves (state_at place)) leavers leavers
      within made refl refl (record {
        each = λ slice. ap (λ at. get_or leavers.at slice 0 + one_if (is_at slice at)) (sym same);
        all = ap (λ (at : Option ℕ). leavers.all + one_if (is_some at)) (sym same);
      }) counts

  -- how many are counted
  pub counts_few : (places : Places H I) (leavers : Leavers) → Counts places leavers → length places ≤ 65533
      → (leavers.all ≤ 65533) × ((slice : ℕ) → get_or leavers.at slice 0 ≤ 65533)
  counts_few places leavers counts short = (
    (let a = counts.all in let b = counted_few (λ at. is_some at) places in omega arith),
    λ slice. let a = counts.each slice in let b = counted_few (is_at slice) places in omega arith,
  )

  pub counts_there : (places : Places H I) (leavers : Leavers) (s : ℕ) (was : Option ℕ) → Counts places leavers
      → was ≡ leaves (state_at (place_at places s)) → (slice : ℕ) → was ≡ Some slice
      → (0 < leavers.all) × (0 < get_or leavers.at slice 0)
  counts_there places leavers s was counts was_so slice is =
      let left : leaves (state_at (place_at places s)) ≡ Some slice = sym was_so ∙ is in (
        (let a = counts.all in
            let b = counted_here (λ at. is_some at) places s refl (ap is_some left) in omega arith),
        (let a = counts.each slice in
            let b = counted_here (is_at slice) places s refl
            (here slice (leaves (state_at (place_at places s))) left) in omega arith),
      )

  -- where none is listed or counted, no slot has something to give or is leaving
  pub all_rest : (places : Places H I) (due : List ℕ) (leavers : Leavers) → Lists places due → Counts places leavers
      → due ≡ [] → leavers.all ≡ 0 → (slot : ℕ)
      → (is_due (place_at places slot) ≡ false) × (leaves (state_at (place_at places slot)) ≡ None)
  all_rest places due leavers lists counts none zero_all slot = (
    elim (is_due (place_at places slot)) as (λ b. is_due (place_at places slot) ≡ b → b ≡ false) [
      | true ↦ λ e. absurd (true≢false (sym (lists.all slot e) ∙ ap (is_among slot) none))
      | false ↦ λ e. refl
    ] refl,
    none_leaving places leavers counts zero_all slot,
  )

-- what a slot leaves once an item was given to it, and once its half came home
module _ {H I : Type 0} (slot_of : H → ℕ) (item_slot : I → ℕ) (handled : H → List I) (s : ℕ) where
  sent_leaves : (half : H) (to : ℕ) (state : DataState H) (desks now : List (DataDesk H I))
      → Serves s (Front half to) state desks now → leaves (Some state) ≡ None
  sent_leaves half to state desks now (inl sent) = ap (λ x. leaves (Some x)) sent.0
  sent_leaves half to state desks now (inr kept) = ap (λ x. leaves (Some x)) kept.0

  served_leaves : (before after : DataPlace H I) (desks now : List (DataDesk H I))
      → Serves s before.state after.state desks now → is_settled before.state ≡ true
      → leaves (Some after.state) ≡ leaves (Some before.state)
  served_leaves before after desks now serves settled = by_state before.state serves settled refl where
    by_state : (state : DataState H) → Serves s state after.state desks now → is_settled state ≡ true
        → before.state ≡ state → leaves (Some after.state) ≡ leaves (Some before.state)
    by_state (Front half to) serves settled was =
        sent_leaves half to after.state desks now serves ∙ sym (ap (λ x. leaves (Some x)) was)
    by_state (Placed at) serves settled was =
        ap (λ x. leaves (Some x)) serves.0 ∙ sym (ap (λ x. leaves (Some x)) was)
    by_state (Recall at to) serves settled was = absurd (true≢false (sym settled))
    by_state (Leaving from to) serves settled was = absurd (true≢false (sym settled))

  pub gave_leaves : (slices room : ℕ) (item : I) (answer : Result Bool (DataNo I))
      (place new : Option (DataPlace H I)) (desks now : List (DataDesk H I)) → Fits slices room place
      → Gave slot_of item_slot handled s room item answer place new desks now
      → leaves (state_at new) ≡ leaves (state_at place)
  gave_leaves slices room item answer None new desks now fits gave = ap (λ x. leaves (state_at x)) gave.keeps.0
  gave_leaves slices room item answer (Some before) new desks now fits gave =
      elim (parks_at (Some before)) as (λ b. parks_at (Some before) ≡ b
      → leaves (state_at new) ≡ leaves (Some before.state)) [
        | true ↦ λ e. ap leaves (gave.stays e)
        | false ↦ λ e.
            let p = gave.placed e in
            let is : new ≡ Some p.1.0 = p.1.1 in
            ap (λ x. leaves (state_at x)) is
            ∙ served_leaves before p.1.0 desks p.1.2.mid p.1.2.serves (rests_there slices room before fits e).1
      ] refl

  -- another slice is left by as many as before
  pub came_from : (half : H) (slice other : ℕ) (places new : Places H I) (place : Option (DataPlace H I)) (t : ℕ)
      → t < length places → new ≡ set places t place → Welcomes half slice (place_at places t) place None
      → other ≢ slice → leavers_of other new ≡ leavers_of other places
  came_from half slice other places new place t within made w apart =
      let a = counted_set (is_at other) places new place t within made in
      let b : leaves (state_at (place_at places t)) ≡ Some slice =
      ap (λ x. leaves (state_at x)) w.3 ∙ ap (λ x. leaves (Some x)) w.9 in
      let c : leaves (state_at place) ≡ None =
      ap (λ x. leaves (state_at x)) w.4 ∙ ap (λ x. leaves (Some x)) w.10 in
      let d : one_if (is_at other (leaves (state_at (place_at places t)))) ≡ 0 =
      ap (λ at. one_if (is_at other at)) b ∙ ap one_if (ne_eqb slice other (λ same. apart (sym same))) in
      let e : one_if (is_at other (leaves (state_at place))) ≡ 0 = ap (λ at. one_if (is_at other at)) c in omega arith

  pub welcomed_leaves : (half : H) (slice : ℕ) (place new : Option (DataPlace H I)) → Welcomes half slice place new None
      → leaves (state_at new) ≡ None
  welcomed_leaves half slice place new w = ap (λ x. leaves (state_at x)) w.4 ∙ ap (λ x. leaves (Some x)) w.10

module _ {O H A : Type 0} where
  -- a slice more was looked at, and emptied if a slot was leaving it
  pub left_more : (chosen : ℕ → Bool) (slice was admitted : ℕ) (left : Bool) (aside new_aside : List A)
      (desks now new : List (LaneDesk O H)) → TakenBelow chosen slice was aside desks now → was ≡ admitted
      → left ≡ chosen slice
      → (left ≡ true → TookFrom slice admitted aside new_aside now new)
      → (left ≡ false → (new_aside ≡ aside) × (new ≡ now))
      → length new_aside ≤ admitted → TakenBelow chosen (slice + 1) admitted new_aside desks new
  left_more chosen slice was admitted true aside new_aside desks now new had alike is took none few =
      below_more chosen slice admitted aside new_aside desks now new was (sym is) had alike (took refl) few
  left_more chosen slice was admitted false aside new_aside desks now new had alike is took none few =
      let same = none refl in
      subst (λ (p : List A × List (LaneDesk O H)). TakenBelow chosen (slice + 1) admitted p.0 desks p.1)
      (λ i. (sym same.0 i, sym same.1 i))
      (below_passed chosen slice admitted aside desks now (sym is)
      (subst (λ (n : ℕ). TakenBelow chosen slice n aside desks now) alike had))
