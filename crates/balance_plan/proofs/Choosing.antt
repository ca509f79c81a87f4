-- The greatest and least of numbers, and the heaviest of loads, by what their loops keep.
use Rattle.std.proofs.Common.{◌≡◌, ℕ, ◌<◌, ◌≤◌, not, true, false, List, ◌∷◌, Some, None, inl, inr, length, get_or, nat_lt, nat_le, ap, ◌∙◌, arith}
use Rattle.std.specs.List.{IsFirstBest, list_all, position_or_len, slice_get}
use Rattle.std.proofs.lemmas.Bool.{and_from, and_left, and_parts, and_right, cases_Bool, cond-false, cond-true, eqb-true, le-leb, leb-true, lt-leb, ltb-false, ltb-true, not_from_false, not_from_true, or_from, or_left, or_right}
use Rattle.std.proofs.lemmas.List.Elements.{All-from_get_or}
use Rattle.std.proofs.lemmas.List.Folds.{find_at, list_all_at}
use Rattle.std.proofs.lemmas.List.Sums.{list_all-from_AllPass, position_or_len_is}
use Rattle.std.proofs.lemmas.List.MinMax.{IsFirstBest-from_best_of, IsStrictWeakOrder-by_number}
use Rattle.std.proofs.lemmas.Option.{slice_get-get_or, slice_get_past}
use Rattle.balance_plan.specs.Shares.{IsHeaviest, MayGo}
use Rattle.balance_plan.specs.Steps.{goes, goes_first, greatest, least, may_go, outweighs, weight}
use Rattle.balance_plan.specs.declared.load.Load.{Load}

pub greatest_is : (numbers : List ℕ) (best : ℕ)
    → IsFirstBest (λ (one : ℕ) (other : ℕ). nat_lt other one) numbers (length numbers) best → greatest numbers ≡ best
greatest_is numbers best is =
    position_or_len_is (λ n. list_all (λ other. nat_le other n) numbers) numbers best 0 (omega (arith, is.0))
    (λ k before. list_all_at (λ other. nat_le other (get_or numbers k 0)) numbers best 0 is.0
    (lt-leb (get_or numbers best 0) (get_or numbers k 0)
    (ltb-true (get_or numbers k 0) (get_or numbers best 0) (is.2 k 0 before))))
    (λ within. list_all-from_AllPass (λ other. nat_le other (get_or numbers best 0)) numbers
    (All-from_get_or (λ other. nat_le other (get_or numbers best 0) ≡ true) numbers 0
    (λ i below. le-leb (get_or numbers i 0) (get_or numbers best 0)
    (ltb-false (get_or numbers best 0) (get_or numbers i 0) (is.1 i 0 below)))))

pub least_is : (numbers : List ℕ) (best : ℕ)
    → IsFirstBest nat_lt numbers (length numbers) best → least numbers ≡ best
least_is numbers best is =
    position_or_len_is (λ n. list_all (λ other. nat_le n other) numbers) numbers best 0 (omega (arith, is.0))
    (λ k before. list_all_at (λ other. nat_le (get_or numbers k 0) other) numbers best 0 is.0
    (lt-leb (get_or numbers k 0) (get_or numbers best 0)
    (ltb-true (get_or numbers best 0) (get_or numbers k 0) (is.2 k 0 before))))
    (λ within. list_all-from_AllPass (λ other. nat_le (get_or numbers best 0) other) numbers
    (All-from_get_or (λ other. nat_le (get_or numbers best 0) other ≡ true) numbers 0
    (λ i below. le-leb (get_or numbers best 0) (get_or numbers i 0)
    (ltb-false (get_or numbers i 0) (get_or numbers best 0) (is.1 i 0 below)))))

pub may_go_says : (from gap : ℕ) (load : Load) → may_go from gap load ≡ true → MayGo from gap load
may_go_says from gap load may =
    let outer = and_parts _ _ may in
    let inner = and_parts _ _ outer.1 in
    record { slice = eqb-true _ _ outer.0; some = leb-true _ _ inner.0; fits = leb-true _ _ inner.1 }

weighs_something : (from gap : ℕ) (load : Load) → 0 < weight from gap load
    → (may_go from gap load ≡ true) × (weight from gap load ≡ load.packets)
weighs_something from gap load some =
    elim (cases_Bool (may_go from gap load)) [
      | inl may ↦ (may, cond-true _ _ _ may)
      | inr not_so ↦ absurd (omega (arith, some, cond-false (may_go from gap load) load.packets 0 not_so))
    ]

weighs_nothing : (from gap : ℕ) (load : Load) → weight from gap load ≡ 0 → may_go from gap load ≡ false
weighs_nothing from gap load none =
    elim (cases_Bool (may_go from gap load)) [
      | inl may ↦ absurd (omega (
        arith,
        none,
        cond-true (may_go from gap load) load.packets 0 may,
        (may_go_says from gap load may).some,
      ))
      | inr not_so ↦ not_so
    ]

outweighs_lighter : (from gap : ℕ) (load other : Load) → weight from gap other ≤ load.packets
    → outweighs from gap load other ≡ true
outweighs_lighter from gap load other lighter =
    elim (cases_Bool (may_go from gap other)) [
      | inl may ↦ or_right (not (may_go from gap other)) (nat_le other.packets load.packets) (le-leb other.packets load.packets (omega (
        arith,
        lighter,
        cond-true (may_go from gap other) other.packets 0 may,
      )))
      | inr not_so ↦ or_left (not (may_go from gap other)) (nat_le other.packets load.packets)
          (not_from_false (may_go from gap other) not_so)
    ]

goes_first_not : (from gap : ℕ) (loads : List Load) (load : Load) (at : ℕ) (none : Load) → at < length loads
    → 0 < weight from gap (get_or loads at none) → weight from gap load < weight from gap (get_or loads at none)
    → goes_first from gap loads load ≡ false
goes_first_not from gap loads load at none within some lighter =
    elim (cases_Bool (may_go from gap load)) [
      | inl may ↦ and_right _ _ (list_all_at (outweighs from gap load) loads at none within (or_from _ _
          (not_from_true _ (weighs_something from gap (get_or loads at none) some).0)
          (lt-leb _ _ (omega (
            arith,
            lighter,
            cond-true (may_go from gap load) load.packets 0 may,
            (weighs_something from gap (get_or loads at none) some).1,
          )))))
      | inr not_so ↦ and_left _ _ not_so
    ]

module _ (from gap most place : ℕ) (loads : List Load) (is : IsHeaviest from gap loads (length loads) most place) where
  pub heaviest_goes : (none : Load) → 0 < most → goes from gap loads ≡ Some (get_or loads place none)
  heaviest_goes none some =
      let here = is.here none some in
      let weighs = weighs_something from gap (get_or loads place none) (omega (arith, here, some)) in
      let at : position_or_len (goes_first from gap loads) loads ≡ place =
      position_or_len_is (goes_first from gap loads) loads place none (omega (arith, is.within some))
      (λ k before. goes_first_not from gap loads (get_or loads k none) place none (is.within some)
      (omega (arith, here, some)) (omega (arith, here, is.first k none some before)))
      (λ within. and_from _ _ weighs.0 (list_all-from_AllPass (outweighs from gap (get_or loads place none)) loads
      (All-from_get_or (λ other. outweighs from gap (get_or loads place none) other ≡ true) loads none
      (λ i below. outweighs_lighter from gap (get_or loads place none) (get_or loads i none)
      (omega (arith, is.bound i none below, here, weighs.1)))))) in
      find_at (goes_first from gap loads) loads ∙ ap (slice_get loads) at
      ∙ slice_get-get_or loads place none (is.within some)

  pub heaviest_may : (none : Load) → 0 < most → MayGo from gap (get_or loads place none)
  heaviest_may none some =
      let here = is.here none some in
      may_go_says from gap (get_or loads place none)
      (weighs_something from gap (get_or loads place none) (omega (arith, here, some))).0

  pub none_goes : most ≡ 0 → goes from gap loads ≡ None
  none_goes nothing =
      let none : Load = record { slot = 0; slice = 0; packets = 0 } in
      let at : position_or_len (goes_first from gap loads) loads ≡ length loads =
      position_or_len_is (goes_first from gap loads) loads (length loads) none (omega arith)
      (λ k below. and_left (may_go from gap (get_or loads k none))
      (list_all (outweighs from gap (get_or loads k none)) loads)
      (weighs_nothing from gap (get_or loads k none) (omega (arith, is.bound k none below, nothing))))
      (λ within. absurd (omega (arith, within))) in
      find_at (goes_first from gap loads) loads ∙ ap (slice_get loads) at
      ∙ slice_get_past loads (length loads) (omega arith)

-- the least of some numbers is one of them
pub least_within : (first : ℕ) (others : List ℕ) → least (first ∷ others) < length (first ∷ others)
least_within first others =
    let best = IsFirstBest-from_best_of (IsStrictWeakOrder-by_number (λ n. n)) first others in
    omega (arith, least_is (first ∷ others) best.0 best.1, best.1.0)
