-- Halves in the order of their slots, which weigh what the admitted names weigh, have just these names.
use Rattle.std.proofs.Common.{◌≡◌, ℕ, zero, suc, ◌+◌, ◌<◌, ◌≤◌, List, [], ◌∷◌, length, map, get_or, refl, sym, ap}
use Rattle.std.proofs.Common.{◌∙◌, subst, arith}
use Rattle.std.specs.Prelude.{Option, Some, None}
use Rattle.std.specs.List.{sum_by, All}
use Rattle.std.specs.List.Sorted.{IsNonDecreasingBy}
use Rattle.std.proofs.lemmas.List.Sums.{sum_by-cons}
use Rattle.std.proofs.lemmas.List.Elements.{All-nil, All-cons, All-weaker}
use base.Stored.{Coded}
use Rattle.worker_core.specs.Names.{weight}
use Rattle.migration.specs.Places.{weight_at}
use Rattle.migration.specs.Sides.{slot_at, BySlot}
use Rattle.gather_home.specs.Homecomings.{somes}
use Rattle.gather_home.proofs.Apart.{only, only_same, only_one}

-- a value stands in a list of names
abbrev pub Stands : {N : Type 0} → List (Option N) → N → Type 0
Stands names n = (k : ℕ) × (get_or names k None ≡ Some n)

abbrev some_out : {N : Type 0} → N → Option N → N
some_out d None = d
some_out d (Some n) = n

module _ {N : Type 0} (slot_of : N → ℕ) where
  -- each name stands at its slot, where the first place is that of this slot
  abbrev pub From : ℕ → List (Option N) → Type 0
  From first names = (k : ℕ) → slot_at slot_of (first + k) (get_or names k None) ≡ first + k

  from_next : (first : ℕ) (x : Option N) (names : List (Option N)) → From first (x ∷ names) → From (first + 1) names
  from_next first x names from k =
      let e : first + suc k ≡ first + 1 + k = omega arith in
      subst (λ (n : ℕ). slot_at slot_of n (get_or names k None) ≡ n) e (from (suc k))

  slot_there : (first : ℕ) (names : List (Option N)) → From first names → (n : N) (k : ℕ)
      → get_or names k None ≡ Some n → slot_of n ≡ first + k
  slot_there first names from n k is = sym (ap (slot_at slot_of (first + k)) is) ∙ from k

module _ {N : Type 0} (coded : Coded N) where
  stands_or : (m n : N) (names : List (Option N)) (w : ℕ) → only coded n m ≡ w
      → (1 ≤ sum_by (weight_at (only coded n)) names → Stands names n)
      → 1 ≤ sum_by (weight_at (only coded n)) (Some m ∷ names) → Stands (Some m ∷ names) n
  stands_or m n names zero e later some =
      let s = sum_by-cons (weight_at (only coded n)) (Some m) names in
      let there = later (omega arith) in (suc there.0, there.1)
  stands_or m n names (suc w) e later some = (0, ap Some (sym (only_one coded n m (omega arith))))

  stands : (names : List (Option N)) (n : N) → 1 ≤ sum_by (weight_at (only coded n)) names → Stands names n
  stands [] n some = absurd (omega arith)
  stands (None ∷ names) n some =
      let e = sum_by-cons (weight_at (only coded n)) None names in
      let later = stands names n (omega arith) in (suc later.0, later.1)
  stands (Some m ∷ names) n some = stands_or m n names (only coded n m) refl (stands names n) some

  module _ {H : Type 0} (name : H → N) where
    -- a name stands among those of halves
    abbrev pub Among : List H → N → Type 0
    Among halves n = (k : ℕ) × (k < length halves) × ((d : H) → name (get_or halves k d) ≡ n)

    among_or : (half : H) (halves : List H) (n : N) (w : ℕ) → only coded n (name half) ≡ w
        → (1 ≤ weight name (only coded n) halves → Among halves n)
        → 1 ≤ weight name (only coded n) (half ∷ halves) → Among (half ∷ halves) n
    among_or half halves n zero e later some =
        let f : H → ℕ = λ half. only coded n (name half) in
        let s = sum_by-cons f half halves in
        let there = later (omega arith) in (suc there.0, (let a = there.1 in omega arith), there.2)
    among_or half halves n (suc w) e later some = (
      0,
      (omega arith),
      λ d. sym (only_one coded n (name half) (omega arith)),
    )

    among : (halves : List H) (n : N) → 1 ≤ weight name (only coded n) halves → Among halves n
    among [] n some = absurd (omega arith)
    among (half ∷ halves) n some = among_or half halves n (only coded n (name half)) refl (among halves n) some

    module _ (slot_of : N → ℕ) where
      climbs_next : (half : H) (halves : List H) → IsNonDecreasingBy (λ x. slot_of (name x)) (half ∷ halves)
          → IsNonDecreasingBy (λ x. slot_of (name x)) halves
      climbs_next half halves climbs i j d low within = climbs (suc i) (suc j) d (omega arith) (omega arith)

      pub by_slot_from : (first : ℕ) (names : List (Option N)) (halves : List H) → From slot_of first names
          → IsNonDecreasingBy (λ x. slot_of (name x)) halves
          → ((h : N → ℕ) → weight name h halves ≡ sum_by (weight_at h) names)
          → map name halves ≡ somes names
      by_slot_from first [] [] from climbs same = refl
      by_slot_from first [] (half ∷ halves) from climbs same = absurd (
          let one : N → ℕ = λ _. 1 in
          let f : H → ℕ = λ x. one (name x) in
          let a = same one in let b = sum_by-cons f half halves in omega arith)
      by_slot_from first (None ∷ names) halves from climbs same =
          by_slot_from (first + 1) names halves (from_next slot_of first None names from) climbs
          (λ h. let a = same h in let b = sum_by-cons (weight_at h) None names in omega arith)
      by_slot_from first (Some n ∷ names) [] from climbs same = absurd (
          let one : N → ℕ = λ _. 1 in
          let a = same one in let b = sum_by-cons (weight_at one) (Some n) names in omega arith)
      by_slot_from first (Some n ∷ names) (half ∷ halves) from climbs same =
          (λ i. is i ∷ by_slot_from (first + 1) names halves (from_next slot_of first (Some n) names from)
          (climbs_next half halves climbs) less i) where
            here : Stands (Some n ∷ names) (name half)
            here =
                let f : H → ℕ = λ x. only coded (name half) (name x) in
                let a = same (only coded (name half)) in
                let b = sum_by-cons f half halves in
                let c = only_same coded (name half) in
                stands (Some n ∷ names) (name half) (omega arith)

            there : Among (half ∷ halves) n
            there =
                let a = same (only coded n) in
                let b = sum_by-cons (weight_at (only coded n)) (Some n) names in
                let c = only_same coded n in
                among (half ∷ halves) n (omega arith)

            first_one : here.0 ≡ 0
            first_one =
                let a = slot_there slot_of first (Some n ∷ names) from (name half) here.0 here.1 in
                let b = slot_there slot_of first (Some n ∷ names) from n 0 refl in
                let c = climbs 0 there.0 half (omega arith) there.1 in
                let d = ap slot_of (there.2 half) in omega arith

            is : name half ≡ n
            is =
                let e : Some n ≡ Some (name half) = subst (λ (k : ℕ). get_or (Some n ∷ names) k None
                ≡ Some (name half)) first_one here.1 in
                sym (ap (some_out n) e)

            less : (h : N → ℕ) → weight name h halves ≡ sum_by (weight_at h) names
            less h =
                let f : H → ℕ = λ x. h (name x) in
                let a = same h in
                let b = sum_by-cons f half halves in
                let c = sum_by-cons (weight_at h) (Some n) names in
                let d = ap h is in omega arith

      pub by_slot : (names : List (Option N)) (halves : List H) → BySlot slot_of names
          → IsNonDecreasingBy (λ x. slot_of (name x)) halves
          → ((h : N → ℕ) → weight name h halves ≡ sum_by (weight_at h) names) → map name halves ≡ somes names
      by_slot names halves slots climbs same = by_slot_from 0 names halves from_zero climbs same where
        from_zero : From slot_of 0 names
        from_zero k = let e : k ≡ 0 + k = omega arith in subst (λ (n : ℕ). slot_at slot_of n (get_or names k None)
            ≡ n) e (slots k)

-- halves whose names are those of a list stand there
module _ {H N : Type 0} (name : H → N) where
  each_stands : (names : List (Option N)) (halves : List H) → map name halves ≡ somes names
      → All (λ half. Stands names (name half)) halves
  each_stands names [] same = All-nil (λ half. Stands names (name half))
  each_stands [] (half ∷ halves) same = absurd (let e = ap length same in omega arith)
  each_stands (None ∷ names) (half ∷ halves) same =
      All-weaker (λ x. Stands names (name x)) (λ x. Stands (None ∷ names) (name x)) (λ x at. (suc at.0, at.1))
      (half ∷ halves) (each_stands names (half ∷ halves) same)
  each_stands (Some n ∷ names) (half ∷ halves) same =
      All-cons (λ x. Stands (Some n ∷ names) (name x)) half halves (0, ap Some (sym (ap (first n) same)))
      (All-weaker (λ x. Stands names (name x)) (λ x. Stands (Some n ∷ names) (name x))
      (λ x at. (suc at.0, at.1)) halves (each_stands names halves (ap later same))) where
        first : {X : Type 0} → X → List X → X
        first d [] = d
        first d (x ∷ xs) = x

        later : {X : Type 0} → List X → List X
        later [] = []
        later (x ∷ xs) = xs

  pub each_at_slot : (slot_of : N → ℕ) (names : List (Option N)) (halves : List H) → BySlot slot_of names
      → map name halves ≡ somes names
      → All (λ half. get_or names (slot_of (name half)) None ≡ Some (name half)) halves
  each_at_slot slot_of names halves slots same =
      All-weaker (λ x. Stands names (name x)) (λ x. get_or names (slot_of (name x)) None ≡ Some (name x))
      (λ x at.
      let e : slot_of (name x) ≡ at.0 = sym (ap (slot_at slot_of at.0) at.1) ∙ slots at.0 in
      subst (λ (k : ℕ). get_or names k None ≡ Some (name x)) (sym e) at.1) halves (each_stands names halves same)
