-- What numbers of the halves of one slot add up to.
use Rattle.std.proofs.Common.{◌≡◌, ◌≢◌, ℕ, ◌+◌, ◌<◌, ◌≤◌, true, false, true≢false, cond, List, [], ◌∷◌, ◌++◌}
use Rattle.std.proofs.Common.{length, set, get_or, refl, sym, ap, ◌∙◌, arith}
use Rattle.std.specs.Prelude.{nat_eq, ◌||◌}
use Rattle.std.specs.List.{sum_by, remove, list_any}
use Rattle.std.proofs.lemmas.List.Sums.{sum_by-cons, sum_by_push, sum_by-remove, sum_by-set}
use Rattle.std.proofs.lemmas.Bool.{eq-eqb, ne_eqb}
use Rattle.worker_core.specs.DataPicks.{lists_of, slot_sum}

module _ {H : Type 0} (slot : H → ℕ) (s : ℕ) where
  -- a number of a half, where it is of the slot
  abbrev pub on : (H → ℕ) → H → ℕ
  on g half = cond (nat_eq (slot half) s) (g half) 0

  pub own : (g : H → ℕ) (half : H) → slot half ≡ s → on g half ≡ g half
  own g half is = ap (λ b. cond b (g half) 0) (eq-eqb (slot half) s is)

  pub foreign : (g : H → ℕ) (half : H) → slot half ≢ s → on g half ≡ 0
  foreign g half apart = ap (λ b. cond b (g half) 0) (ne_eqb (slot half) s apart)

  abbrev pub count : List H → ℕ
  count halves = slot_sum slot s (λ _. 1) halves

  -- where none is of the slot nothing adds up
  pub none_adds : (g : H → ℕ) (xs : List H) → count xs ≡ 0 → slot_sum slot s g xs ≡ 0
  none_adds g [] none = refl
  none_adds g (x ∷ xs) none =
      let one : H → ℕ = λ _. 1 in
      let a = sum_by-cons (on one) x xs in
      let b = sum_by-cons (on g) x xs in
      elim (nat_eq (slot x) s) as (λ t. nat_eq (slot x) s ≡ t → sum_by (on g) (x ∷ xs) ≡ 0) [
        | true ↦ λ e. absurd (let c : on one x ≡ 1 = ap (λ t. cond t 1 0) e in omega arith)
        | false ↦ λ e.
            let c : on one x ≡ 0 = ap (λ t. cond t 1 0) e in
            let d : on g x ≡ 0 = ap (λ t. cond t (g x) 0) e in
            let h = none_adds g xs (omega arith) in omega arith
      ] refl

  pub none_found : (xs : List H) → list_any (λ half. nat_eq (slot half) s) xs ≡ false → count xs ≡ 0
  none_found [] none = refl
  none_found (x ∷ xs) none =
      let one : H → ℕ = λ _. 1 in
      let a = sum_by-cons (on one) x xs in
      elim (nat_eq (slot x) s) as (λ t. nat_eq (slot x) s ≡ t
      → (t || list_any (λ half. nat_eq (slot half) s) xs) ≡ false → count (x ∷ xs) ≡ 0) [
        | true ↦ λ e no. absurd (true≢false no)
        | false ↦ λ e no. let c : on one x ≡ 0 = ap (λ t. cond t 1 0) e in let h = none_found xs no in omega arith
      ] refl none

  pub sum-push : (g : H → ℕ) (xs : List H) (x : H) → slot_sum slot s g (xs ++ x ∷ []) ≡ slot_sum slot s g xs + on g x
  sum-push g xs x = sum_by_push (on g) xs x

  -- one half of the slot that stands alone
  module _ (xs : List H) (k : ℕ) (x : H) (within : k < length xs) (there : x ≡ get_or xs k x) where
    pub without_other : (g : H → ℕ) → slot x ≢ s → slot_sum slot s g (remove xs k) ≡ slot_sum slot s g xs
    without_other g apart =
        let a = sum_by-remove (on g) xs k x within in
        let b : on g (get_or xs k x) ≡ 0 = ap (on g) (sym there) ∙ foreign g x apart in omega arith

    pub without : (g : H → ℕ) → slot x ≡ s → count xs ≤ 1 → slot_sum slot s g (remove xs k) ≡ 0
    without g is few =
        let one : H → ℕ = λ _. 1 in
        let a = sum_by-remove (on one) xs k x within in
        let b : on one (get_or xs k x) ≡ 1 = ap (on one) (sym there) ∙ own one x is in
        none_adds g (remove xs k) (omega arith)

    pub alone : (g : H → ℕ) → slot x ≡ s → count xs ≤ 1 → slot_sum slot s g xs ≡ g x
    alone g is few =
        let a = sum_by-remove (on g) xs k x within in
        let b : on g (get_or xs k x) ≡ g x = ap (on g) (sym there) ∙ own g x is in
        let c = without g is few in omega arith

    pub set_other : (g : H → ℕ) (y : H) → slot x ≢ s → slot y ≢ s
        → slot_sum slot s g (set xs k y) ≡ slot_sum slot s g xs
    set_other g y apart away =
        let a = sum_by-set (on g) xs k y x within in
        let b : on g (get_or xs k x) ≡ 0 = ap (on g) (sym there) ∙ foreign g x apart in
        let c = foreign g y away in omega arith

    pub set_alone : (g : H → ℕ) (y : H) → slot x ≡ s → slot y ≡ s → count xs ≤ 1 → slot_sum slot s g (set xs k y) ≡ g y
    set_alone g y is alike few =
        let a = sum_by-set (on g) xs k y x within in
        let b : on g (get_or xs k x) ≡ g x = ap (on g) (sym there) ∙ own g x is in
        let c = own g y alike in
        let d = alone g is few in omega arith

module _ {H I : Type 0} (slot : H → ℕ) (handled : H → List I) (s : ℕ) where
  pub lists-append : (xs ys : List H)
      → lists_of slot handled s (xs ++ ys) ≡ lists_of slot handled s xs ++ lists_of slot handled s ys
  lists-append [] ys = refl
  lists-append (x ∷ xs) ys = elim (nat_eq (slot x) s) as
      (λ b. cond b (handled x ∷ lists_of slot handled s (xs ++ ys)) (lists_of slot handled s (xs ++ ys))
      ≡ cond b (handled x ∷ lists_of slot handled s xs) (lists_of slot handled s xs) ++ lists_of slot handled s ys) [
        | true ↦ ap (λ l. handled x ∷ l) (lists-append xs ys)
        | false ↦ lists-append xs ys
      ]

  -- what the lists weigh is what their halves do
  pub lists-sum : (h : List I → ℕ) (xs : List H)
      → sum_by h (lists_of slot handled s xs) ≡ slot_sum slot s (λ half. h (handled half)) xs
  lists-sum h [] = refl
  lists-sum h (x ∷ xs) =
      let g : H → ℕ = λ half. h (handled half) in
      let b = sum_by-cons (on slot s g) x xs in
      let later = lists-sum h xs in
      elim (nat_eq (slot x) s) as (λ t. nat_eq (slot x) s ≡ t
      → sum_by h (cond t (handled x ∷ lists_of slot handled s xs) (lists_of slot handled s xs))
      ≡ sum_by (on slot s g) (x ∷ xs)) [
        | true ↦ λ e. let c : on slot s g x ≡ h (handled x) = ap (λ t. cond t (h (handled x)) 0) e in
            let d = sum_by-cons h (handled x) (lists_of slot handled s xs) in omega arith
        | false ↦ λ e. let c : on slot s g x ≡ 0 = ap (λ t. cond t (h (handled x)) 0) e in omega arith
      ] refl
