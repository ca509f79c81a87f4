-- What is left of one slot in orders that were not taken: with it, its half has all that was sent for it.
use Rattle.std.proofs.Common.{◌≡◌, ◌≢◌, ℕ, ◌+◌, ◌≤◌, true, false, true≢false, cond, List, [], ◌∷◌, ◌++◌, length}
use Rattle.std.proofs.Common.{Option, Some, None, refl, sym, ap, ◌∙◌, subst, arith, append_assoc, append-nil}
use Rattle.std.specs.Prelude.{nat_eq}
use Rattle.std.specs.List.{sum_by}
use Rattle.std.specs.Option.{option_to_list, is_some}
use Rattle.std.proofs.lemmas.List.Sums.{sum_by-append, sum_by-cons}
use Rattle.std.proofs.lemmas.Bool.{eqb-true, eqb-false}
use Rattle.lane_core.specs.Sequence.{Lawful}
use Rattle.worker_core.specs.declared.data_order.DataOrder.{DataOrder}
use Rattle.worker_core.specs.declared.data_order.DataOrder.TheVariants.{Arrive, Item, Leave}
use Rattle.worker_core.specs.DataOrders.{more, halves_in, stands, MayFollow, now_after, now_from, now_of, gone_after}
use Rattle.worker_core.specs.DataOrders.{gone_from, gone_of}
use Rattle.worker_core.specs.DataPicks.{slot_sum, with_kept}
use Rattle.worker_core.specs.DataStays.{Holds, KeptStands}
use Rattle.worker_core.proofs.DataSlotSums.{on, count, none_adds}
use Rattle.worker_core.proofs.DataRuns.{standing, now_last, now-append, gone-append}
use Rattle.gather_home.specs.DataLefts.{items_in, kept_in}

-- where none is counted nothing adds up
pub zero_sum : {A : Type 0} (h : A → ℕ) (xs : List A) → sum_by (λ _. 1) xs ≡ 0 → sum_by h xs ≡ 0
zero_sum h [] none = refl
zero_sum {A} h (x ∷ xs) none = absurd (let one : A → ℕ = λ _. 1 in let e = sum_by-cons one x xs in omega arith)

pub counted : {A : Type 0} (xs : List A) → sum_by (λ _. 1) xs ≡ length xs
counted [] = refl
counted {A} (x ∷ xs) = let one : A → ℕ = λ _. 1 in let e = sum_by-cons one x xs in let h = counted xs in omega arith

module _ {H I : Type 0} (slot : H → ℕ) (item_slot : I → ℕ) (handled : H → List I) (s : ℕ) where
  abbrev next : Option (List I) → DataOrder H I → Option (List I)
  next now order = now_after slot item_slot handled s now order

  -- an order may follow where this stands of the slot
  abbrev May : Option (List I) → DataOrder H I → Type 0
  May now (Arrive half) = nat_eq (slot half) s ≡ true → is_some now ≡ false
  May now (Item x) = nat_eq (item_slot x) s ≡ true → is_some now ≡ true
  May now (Leave t) = nat_eq t s ≡ true → is_some now ≡ true

  abbrev pub LawFrom : Option (List I) → List (DataOrder H I) → Type 0
  LawFrom now [] = Unit {0}
  LawFrom now (order ∷ orders) = May now order × LawFrom (next now order) orders

  may_from : (came : List (DataOrder H I)) (order : DataOrder H I) → MayFollow slot item_slot came order
      → May (now_of slot item_slot handled s came) order
  may_from came (Arrive half) law = λ is. standing slot item_slot handled s came
      ∙ ap (λ n. stands slot item_slot n came) (sym (eqb-true (slot half) s is)) ∙ law
  may_from came (Item x) law = λ is. standing slot item_slot handled s came
      ∙ ap (λ n. stands slot item_slot n came) (sym (eqb-true (item_slot x) s is)) ∙ law
  may_from came (Leave t) law = λ is. standing slot item_slot handled s came
      ∙ ap (λ n. stands slot item_slot n came) (sym (eqb-true t s is)) ∙ law

  -- what follows lawfully follows what was taken
  pub law_from : (came left : List (DataOrder H I)) → Lawful (MayFollow slot item_slot) (came ++ left)
      → LawFrom (now_of slot item_slot handled s came) left
  law_from came [] law = tt
  law_from came (order ∷ left) law = (
    may_from came order (law came order left refl),
    subst (λ (o : Option (List I)). LawFrom o left) (now_last slot item_slot handled s came order)
        (law_from (came ++ order ∷ []) left (subst (Lawful (MayFollow slot item_slot))
        (sym (append_assoc came (order ∷ []) left)) law)),
  )

  abbrev one : {A : Type 0} → A → ℕ
  one _ = 1

  some_one : (now : Option (List I)) → is_some now ≡ true → sum_by one (option_to_list now) ≡ 1
  some_one None some = absurd (true≢false (sym some))
  some_one (Some l) some = refl

  none_one : (now : Option (List I)) → is_some now ≡ false → sum_by one (option_to_list now) ≡ 0
  none_one None none = refl
  none_one (Some l) none = absurd (true≢false none)

  more_one : (now : Option (List I)) (x : I) → sum_by one (option_to_list (more now x))
      ≡ sum_by one (option_to_list now)
  more_one None x = refl
  more_one (Some l) x = refl

  -- halves that stand there or come leave or stand there at the end
  pub conserved : (now : Option (List I)) (left : List (DataOrder H I)) → LawFrom now left
      → sum_by one (option_to_list now) + count slot s (halves_in left)
      ≡ sum_by one (gone_from slot item_slot handled s now left)
      + sum_by one (option_to_list (now_from slot item_slot handled s now left))
  conserved now [] law = omega arith
  conserved now (Arrive half ∷ left) law =
      let c = sum_by-cons (on slot s one) half (halves_in left) in
      let later = conserved (next now (Arrive half)) left law.1 in
      elim (nat_eq (slot half) s) as (λ b. nat_eq (slot half) s ≡ b → sum_by one (option_to_list now)
      + count slot s (half ∷ halves_in left)
      ≡ sum_by one (gone_from slot item_slot handled s (next now (Arrive half)) left)
      + sum_by one (option_to_list (now_from slot item_slot handled s (next now (Arrive half)) left))) [
        | true ↦ λ e.
            let a = none_one now (law.0 e) in
            let b : on slot s one half ≡ 1 = ap (λ t. cond t 1 0) e in
            let d : sum_by one (option_to_list (next now (Arrive half)))
            ≡ 1 = ap (λ t. sum_by one (option_to_list (cond t (Some (handled half)) now))) e in
            omega arith
        | false ↦ λ e.
            let b : on slot s one half ≡ 0 = ap (λ t. cond t 1 0) e in
            let d : sum_by one (option_to_list (next now (Arrive half))) ≡ sum_by one (option_to_list now) =
            ap (λ t. sum_by one (option_to_list (cond t (Some (handled half)) now))) e in
            omega arith
      ] refl
  conserved now (Item x ∷ left) law =
      let later = conserved (next now (Item x)) left law.1 in
      let d : sum_by one (option_to_list (next now (Item x))) ≡ sum_by one (option_to_list now) =
      elim (nat_eq (item_slot x) s) as (λ b. sum_by one (option_to_list (cond b (more now x) now))
      ≡ sum_by one (option_to_list now)) [
        | true ↦ more_one now x
        | false ↦ refl
      ] in omega arith
  conserved now (Leave t ∷ left) law =
      let later = conserved (next now (Leave t)) left law.1 in
      let g = sum_by-append one (gone_after slot item_slot handled s now (Leave t)) (gone_from slot item_slot handled s
      (next now (Leave t)) left) in
      elim (nat_eq t s) as (λ b. nat_eq t s ≡ b → sum_by one (option_to_list now) + count slot s (halves_in left)
      ≡ sum_by one (gone_after slot item_slot handled s now (Leave t)
      ++ gone_from slot item_slot handled s (next now (Leave t)) left)
      + sum_by one (option_to_list (now_from slot item_slot handled s (next now (Leave t)) left))) [
        | true ↦ λ e.
            let d : sum_by one (option_to_list (next now (Leave t)))
            ≡ 0 = ap (λ b. sum_by one (option_to_list (cond {A = Option (List I)} b None now))) e in
            let f : sum_by one (gone_after slot item_slot handled s now (Leave t)) ≡ sum_by one (option_to_list now) =
            ap (λ b. sum_by one (cond b (option_to_list now) [])) e in omega arith
        | false ↦ λ e.
            let d : sum_by one (option_to_list (next now (Leave t))) ≡ sum_by one (option_to_list now) =
            ap (λ b. sum_by one (option_to_list (cond {A = Option (List I)} b None now))) e in
            let f : sum_by one (gone_after slot item_slot handled s now (Leave t))
            ≡ 0 = ap (λ b. sum_by one (cond b (option_to_list now) [])) e in omega arith
      ] refl

  -- where none stands there and none comes there are no items
  pub none_left : (left : List (DataOrder H I)) → LawFrom None left → count slot s (halves_in left) ≡ 0
      → items_in item_slot s left ≡ []
  none_left [] law none = refl
  none_left (Arrive half ∷ left) law none =
      let c = sum_by-cons (on slot s one) half (halves_in left) in
      elim (nat_eq (slot half) s) as (λ b. nat_eq (slot half) s ≡ b → items_in item_slot s left ≡ []) [
        | true ↦ λ e. absurd (let b : on slot s one half ≡ 1 = ap (λ t. cond t 1 0) e in omega arith)
        | false ↦ λ e.
            let b : on slot s one half ≡ 0 = ap (λ t. cond t 1 0) e in
            none_left left (subst (λ (o : Option (List I)). LawFrom o left)
            (ap (λ t. cond t (Some (handled half)) None) e) law.1) (omega arith)
      ] refl
  none_left (Item x ∷ left) law none =
      elim (nat_eq (item_slot x) s) as (λ b. nat_eq (item_slot x) s ≡ b
      → cond b (x ∷ items_in item_slot s left) (items_in item_slot s left) ≡ []) [
        | true ↦ λ e. absurd (true≢false (sym (law.0 e)))
        | false ↦ λ e. none_left left (subst (λ (o : Option (List I)). LawFrom o left)
            (ap (λ t. cond {A = Option (List I)} t None None) e) law.1) none
      ] refl
  none_left (Leave t ∷ left) law none =
      elim (nat_eq t s) as (λ b. nat_eq t s ≡ b → items_in item_slot s left ≡ []) [
        | true ↦ λ e. absurd (true≢false (sym (law.0 e)))
        | false ↦ λ e. none_left left (subst (λ (o : Option (List I)). LawFrom o left)
            (ap (λ b. cond {A = Option (List I)} b None None) e) law.1) none
      ] refl

  -- what the halves add up to that stand there or come, once each has what is left
  abbrev with_left : (List I → ℕ) → Option (List I) → List (DataOrder H I) → ℕ
  with_left h now left = sum_by (λ l. h (l ++ items_in item_slot s left)) (option_to_list now)
      + slot_sum slot s (λ half. h (handled half ++ items_in item_slot s left)) (halves_in left)

  -- what those add up to that left, and what stands there at the end
  abbrev at_end : (List I → ℕ) → Option (List I) → List (DataOrder H I) → ℕ
  at_end h now left = sum_by h (gone_from slot item_slot handled s now left)
      + sum_by h (option_to_list (now_from slot item_slot handled s now left))

  none_more : (now : Option (List I)) (h : List I → ℕ) → sum_by (λ l. h (l ++ [])) (option_to_list now)
      ≡ sum_by h (option_to_list now)
  none_more None h = refl
  none_more (Some l) h = (omega arith) ∙ ap h (append-nil l) ∙ (omega arith)

  -- where one half at most is meant, it has all that is left with it
  pub left_over : (h : List I → ℕ) (now : Option (List I)) (left : List (DataOrder H I)) → LawFrom now left
      → at_end one now left ≤ 1
      → with_left h now left ≡ at_end h now left
  left_over h now [] law few = (let a = none_more now h in omega arith)
  left_over h now (Arrive half ∷ left) law few =
      let g : H → ℕ = λ half. h (handled half ++ items_in item_slot s left) in
      let c = sum_by-cons (on slot s g) half (halves_in left) in
      let later = left_over h (next now (Arrive half)) left law.1 few in
      elim (nat_eq (slot half) s) as (λ b. nat_eq (slot half) s ≡ b → with_left h now (Arrive half ∷ left)
      ≡ at_end h now (Arrive half ∷ left)) [
        | true ↦ λ e.
            let b : on slot s g half ≡ g half = ap (λ t. cond t (g half) 0) e in
            let a = zero_sum (λ l. h (l ++ items_in item_slot s left)) (option_to_list now) (none_one now (law.0 e)) in
            let d : sum_by (λ l. h (l ++ items_in item_slot s left)) (option_to_list (next now (Arrive half)))
            ≡ g half =
            ap (λ t. sum_by (λ l. h (l ++ items_in item_slot s left))
            (option_to_list (cond t (Some (handled half)) now))) e ∙ (omega arith) in omega arith
        | false ↦ λ e.
            let b : on slot s g half ≡ 0 = ap (λ t. cond t (g half) 0) e in
            let d : sum_by (λ l. h (l ++ items_in item_slot s left)) (option_to_list (next now (Arrive half)))
            ≡ sum_by (λ l. h (l ++ items_in item_slot s left)) (option_to_list now) =
            ap (λ t. sum_by (λ l. h (l ++ items_in item_slot s left))
            (option_to_list (cond t (Some (handled half)) now))) e in omega arith
      ] refl
  left_over h now (Item x ∷ left) law few =
      let rest : List I = items_in item_slot s left in
      let later = left_over h (next now (Item x)) left law.1 few in
      elim (nat_eq (item_slot x) s) as (λ b. nat_eq (item_slot x) s ≡ b
      → sum_by (λ l. h (l ++ cond b (x ∷ rest) rest)) (option_to_list now)
      + slot_sum slot s (λ half. h (handled half ++ cond b (x ∷ rest) rest)) (halves_in left)
      ≡ at_end h (next now (Item x)) left) [
        | true ↦ λ e.
            let count_now = conserved (next now (Item x)) left law.1 in
            let same : sum_by one (option_to_list (next now (Item x))) ≡ 1 =
            ap (λ t. sum_by one (option_to_list (cond t (more now x) now))) e ∙ more_one now x
            ∙ some_one now (law.0 e) in
            let none : count slot s (halves_in left) ≡ 0 = omega arith in
            let a = none_adds slot s (λ half. h (handled half ++ x ∷ rest)) (halves_in left) none in
            let b = none_adds slot s (λ half. h (handled half ++ rest)) (halves_in left) none in
            let d : sum_by (λ l. h (l ++ rest)) (option_to_list (next now (Item x)))
            ≡ sum_by (λ l. h (l ++ x ∷ rest)) (option_to_list now) =
            ap (λ t. sum_by (λ l. h (l ++ rest)) (option_to_list (cond t (more now x) now))) e
            ∙ moved now x h rest in omega arith
        | false ↦ λ e.
            let d : sum_by (λ l. h (l ++ rest)) (option_to_list (next now (Item x)))
            ≡ sum_by (λ l. h (l ++ rest)) (option_to_list now) =
            ap (λ t. sum_by (λ l. h (l ++ rest)) (option_to_list (cond t (more now x) now))) e in omega arith
      ] refl where
        moved : (o : Option (List I)) (x : I) (h : List I → ℕ) (rest : List I)
            → sum_by (λ l. h (l ++ rest)) (option_to_list (more o x))
            ≡ sum_by (λ l. h (l ++ x ∷ rest)) (option_to_list o)
        moved None x h rest = refl
        moved (Some l) x h rest = (omega arith) ∙ ap h (append_assoc l (x ∷ []) rest) ∙ (omega arith)
  left_over h now (Leave t ∷ left) law few =
      let rest : List I = items_in item_slot s left in
      let gone : List (List I) = gone_from slot item_slot handled s (next now (Leave t)) left in
      let g = sum_by-append h (gone_after slot item_slot handled s now (Leave t)) gone in
      let u = sum_by-append one (gone_after slot item_slot handled s now (Leave t)) gone in
      let count_now = conserved (next now (Leave t)) left law.1 in
      elim (nat_eq t s) as (λ b. nat_eq t s ≡ b → with_left h now (Leave t ∷ left) ≡ at_end h now (Leave t ∷ left)) [
        | true ↦ λ e.
            let gone_is : (f : List I → ℕ) → sum_by f (gone_after slot item_slot handled s now (Leave t))
            ≡ sum_by f (option_to_list now) =
            λ f. ap (λ b. sum_by f (cond b (option_to_list now) [])) e in
            let p = gone_is one in let q = gone_is h in
            let stood = some_one now (law.0 e) in
            let off : sum_by one (option_to_list (next now (Leave t)))
            ≡ 0 = ap (λ b. sum_by one (option_to_list (cond {A = Option (List I)} b None now))) e in
            let none : count slot s (halves_in left) ≡ 0 = omega arith in
            let quiet : rest ≡ [] =
            none_left left (subst (λ (o : Option (List I)). LawFrom o left)
            (ap (λ b. cond {A = Option (List I)} b None now) e) law.1) none in
            let a = none_adds slot s (λ half. h (handled half ++ rest)) (halves_in left) none in
            let b : sum_by (λ l. h (l ++ rest)) (option_to_list now) ≡ sum_by h (option_to_list now) =
            ap (λ r. sum_by (λ l. h (l ++ r)) (option_to_list now)) quiet ∙ none_more now h in
            let c = zero_sum h gone (omega arith) in
            let d = zero_sum h (option_to_list (now_from slot item_slot handled s (next now (Leave t)) left))
            (omega arith) in omega arith
        | false ↦ λ e.
            let same : (f : List I → ℕ) → sum_by f (option_to_list (next now (Leave t)))
            ≡ sum_by f (option_to_list now) =
            λ f. ap (λ b. sum_by f (option_to_list (cond {A = Option (List I)} b None now))) e in
            let none_gone : (f : List I → ℕ) → sum_by f (gone_after slot item_slot handled s now (Leave t)) ≡ 0 =
            λ f. ap (λ b. sum_by f (cond b (option_to_list now) [])) e in
            let p = none_gone one in let q = none_gone h in let r = same (λ l. h (l ++ rest)) in
            let later = left_over h (next now (Leave t)) left law.1 (omega arith) in omega arith
      ] refl

  kept_is : (kept : Option I) (l : List I) → with_kept item_slot s kept l ≡ l ++ kept_in item_slot s kept
  kept_is None l = sym (append-nil l)
  kept_is (Some x) l = elim (nat_eq (item_slot x) s) as (λ b. cond b (l ++ x ∷ []) l ≡ l ++ cond b (x ∷ []) []) [
    | true ↦ refl
    | false ↦ sym (append-nil l)
  ]

  absent : (now : Option (List I)) → sum_by one (option_to_list now) ≡ 0 → is_some now ≡ false
  absent None none = refl
  absent (Some l) none = absurd (omega arith)

  is_nothing : (now : Option (List I)) → is_some now ≡ false → now ≡ None
  is_nothing None none = refl
  is_nothing (Some l) none = absurd (true≢false none)

  none_kept : (came : List (DataOrder H I)) (kept : Option I) → KeptStands slot item_slot handled came kept
      → is_some (now_of slot item_slot handled s came) ≡ false → kept_in item_slot s kept ≡ []
  none_kept came None stands none = refl
  none_kept came (Some x) stands none = elim (nat_eq (item_slot x) s) as (λ b. nat_eq (item_slot x) s ≡ b
      → cond b (x ∷ []) [] ≡ []) [
        | true ↦ λ e. absurd (true≢false (sym (stands x refl)
            ∙ ap (λ n. is_some (now_of slot item_slot handled n came)) (eqb-true (item_slot x) s e) ∙ none))
        | false ↦ λ e. refl
      ] refl

-- two lists whose beginnings are as long
pub append_same : {A : Type 0} (ws bs xs ys : List A) → length ws ≡ length bs → ws ++ xs ≡ bs ++ ys → (ws ≡ bs)
    × (xs ≡ ys)
append_same [] [] xs ys long e = (refl, e)
append_same [] (b ∷ bs) xs ys long e = absurd (omega arith)
append_same (a ∷ ws) [] xs ys long e = absurd (omega arith)
append_same (a ∷ ws) (b ∷ bs) xs ys long e =
    let head : a ≡ b = cc in let tail : ws ++ xs ≡ bs ++ ys = cc in
    let later = append_same ws bs xs ys (omega arith) tail in ((λ i. head i ∷ later.0 i), later.1)

-- a desk whose lane was closed: what its halves have, once each has what is left, is what was sent there for the half
-- of the slot
module _ {H I : Type 0} (slot : H → ℕ) (item_slot : I → ℕ) (handled : H → List I) (s : ℕ)
    (came left : List (DataOrder H I)) (held : List H) (kept : Option I) (lists backs reaches away : List (List I))
    (law : Lawful (MayFollow slot item_slot) (came ++ left)) (holds : Holds slot item_slot handled came held kept)
    (stands : KeptStands slot item_slot handled came kept)
    (gone : gone_of slot item_slot handled s came ≡ backs ++ lists) (all : gone_of slot item_slot handled s (came
    ++ left) ≡ reaches ++ away)
    (long : length backs ≡ length reaches)
    (few : length away + sum_by (λ _. 1) (option_to_list (now_of slot item_slot handled s (came ++ left))) ≤ 1) where
  abbrev now : Option (List I)
  now = now_of slot item_slot handled s came

  abbrev end : Option (List I)
  end = now_of slot item_slot handled s (came ++ left)

  abbrev later : List (List I)
  later = gone_from slot item_slot handled s (now_of slot item_slot handled s came) left

  abbrev pub rest : List I
  rest = kept_in item_slot s kept ++ items_in item_slot s left

  parted : (backs ≡ reaches) × (lists ++ gone_from slot item_slot handled s (now_of slot item_slot handled s came) left
      ≡ away)
  parted =
      append_same backs reaches (lists ++ later) away long
      (sym (append_assoc backs lists later) ∙ ap (λ l. l ++ later) (sym gone)
      ∙ sym (gone-append slot item_slot handled s None came left) ∙ all)

  pub backs_are : backs ≡ reaches
  backs_are = parted.0

  ends : now_of slot item_slot handled s (came ++ left)
      ≡ now_from slot item_slot handled s (now_of slot item_slot handled s came) left
  ends = now-append slot item_slot handled s None came left

  laws : LawFrom slot item_slot handled s (now_of slot item_slot handled s came) left
  laws = law_from slot item_slot handled s came left law

  abbrev one_list : List I → ℕ
  one_list _ = 1

  abbrev tally : {A : Type 0} → List A → ℕ
  tally xs = sum_by (λ _. 1) xs

  counts : tally lists + (tally later + tally (option_to_list (now_from slot item_slot handled s now left))) ≤ 1
  counts =
      let a = sum_by-append one_list lists later in
      let b = ap (sum_by (λ _. 1)) parted.1 in
      let c = counted away in
      let d = ap (λ o. tally (option_to_list o)) ends in omega arith

  stood : tally (option_to_list now) + count slot s (halves_in left) ≡ tally later
      + tally (option_to_list (now_from slot item_slot handled s now left))
  stood = conserved slot item_slot handled s now left laws

  -- each half that is held
  held_sum : (h : List I → ℕ) → slot_sum slot s (λ half. h (handled half ++ rest)) held
      ≡ sum_by (λ l. h (l ++ items_in item_slot s left)) (option_to_list now)
  held_sum h =
      let same : (λ (half : H). h (handled half ++ rest)) ≡ (λ half. h (with_kept item_slot s kept (handled half)
      ++ items_in item_slot s left)) =
      λ i half. h ((sym (append_assoc (handled half) (kept_in item_slot s kept) (items_in item_slot s left))
      ∙ ap (λ l. l ++ items_in item_slot s left) (sym (kept_is slot item_slot handled s kept (handled half)))) i) in
      ap (λ g. slot_sum slot s g held) same ∙ holds s (λ l. h (l ++ items_in item_slot s left))

  -- each half that comes
  come_sum : (h : List I → ℕ) → slot_sum slot s (λ half. h (handled half ++ rest)) (halves_in left)
      ≡ slot_sum slot s (λ half. h (handled half ++ items_in item_slot s left)) (halves_in left)
  come_sum h = elim (nat_eq (count slot s (halves_in left)) 0) as (λ b. nat_eq (count slot s (halves_in left)) 0 ≡ b
      → slot_sum slot s (λ half. h (handled half ++ rest)) (halves_in left)
      ≡ slot_sum slot s (λ half. h (handled half ++ items_in item_slot s left)) (halves_in left)) [
        | true ↦ λ e.
            let none = eqb-true (count slot s (halves_in left)) 0 e in
            none_adds slot s (λ half. h (handled half ++ rest)) (halves_in left) none
            ∙ sym (none_adds slot s (λ half. h (handled half ++ items_in item_slot s left)) (halves_in left) none)
        | false ↦ λ e.
            let some : count slot s (halves_in left) ≢ 0 = eqb-false (count slot s (halves_in left)) 0 e in
            let a = counts in let b = stood in
            let none : tally (option_to_list now) ≡ 0 = omega arith in
            ap (λ r. slot_sum slot s (λ half. h (handled half ++ (r ++ items_in item_slot s left))) (halves_in left))
            (none_kept slot item_slot handled s came kept stands (absent slot item_slot handled s now none))
      ] refl

  -- where nobody stands or comes nothing is left
  quiet : tally later + tally (option_to_list (now_from slot item_slot handled s now left)) ≡ 0 → rest ≡ []
  quiet none =
      let b = stood in
      let off : is_some now ≡ false = absent slot item_slot handled s now (omega arith) in
      (λ i. none_kept slot item_slot handled s came kept stands off i ++ none_left slot item_slot handled s left
      (subst (λ (o : Option (List I)). LawFrom slot item_slot handled s o left)
      (is_nothing slot item_slot handled s now off) laws) (omega arith) i)

  nothing_more : (h : List I → ℕ) (xs : List (List I)) → sum_by (λ l. h (l ++ [])) xs ≡ sum_by h xs
  nothing_more h xs = ap (λ (g : List I → ℕ). sum_by g xs) (λ i l. h (append-nil l i))

  -- each that left
  gone_sum : (h : List I → ℕ) → sum_by (λ l. h (l ++ rest)) lists ≡ sum_by h lists
  gone_sum h = elim (nat_eq (tally lists) 0) as (λ b. nat_eq (tally lists) 0 ≡ b → sum_by (λ l. h (l ++ rest)) lists
      ≡ sum_by h lists) [
        | true ↦ λ e. let none = eqb-true (tally lists) 0 e in zero_sum (λ l. h (l ++ rest)) lists none
            ∙ sym (zero_sum h lists none)
        | false ↦ λ e.
            let some : tally lists ≢ 0 = eqb-false (tally lists) 0 e in
            let a = counts in
            ap (λ r. sum_by (λ l. h (l ++ r)) lists) (quiet (omega arith)) ∙ nothing_more h lists
      ] refl

  pub desk_found : (h : List I → ℕ) → sum_by (λ l. h (l ++ rest)) lists
      + slot_sum slot s (λ half. h (handled half ++ rest)) held
      + slot_sum slot s (λ half. h (handled half ++ rest)) (halves_in left)
      ≡ sum_by h away + sum_by h (option_to_list (now_of slot item_slot handled s (came ++ left)))
  desk_found h =
      let a = gone_sum h in let b = held_sum h in let c = come_sum h in
      let d = left_over slot item_slot handled s h now left laws (let k = counts in omega arith) in
      let e = sum_by-append h lists later in
      let f = ap (sum_by h) parted.1 in
      let g = ap (λ o. sum_by h (option_to_list o)) ends in omega arith

  -- where the half isn't meant nothing of the slot is left here
  pub desk_quiet : length away + sum_by (λ _. 1) (option_to_list (now_of slot item_slot handled s (came ++ left))) ≡ 0
      → rest ≡ []
  desk_quiet none =
      let a = sum_by-append one_list lists later in
      let b = ap (sum_by (λ _. 1)) parted.1 in
      let c = counted away in
      let d = ap (λ o. tally (option_to_list o)) ends in quiet (omega arith)
