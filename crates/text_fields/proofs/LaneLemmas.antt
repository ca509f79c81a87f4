-- What one operation makes of each lane.
use Rattle.std.proofs.Common.{◌≡◌, ℕ, zero, suc, ◌+◌, ◌-◌, ◌^◌, ◌<◌, ◌≤◌, ◌%◌, ◌&&◌, Bool, true, false, List, [], ◌∷◌, length, map, min, max, get_or, refl, ap, ◌∙◌, arith, cond, ltb, eqb, inl, inr}
use Rattle.std.proofs.lemmas.Bool.{cases_lt, lt-ltb, le-ltb}
use Rattle.std.proofs.lemmas.Bool.Decides.{nat_tests}
use Rattle.std.proofs.lemmas.Simd.{mask_l-mod, tops_compared, zip2_splat_left}
use Rattle.std.proofs.lemmas.List.{length-map}
use lib.Lanes.{zip2, sel_l, mask_l, top, Each1}
use lib.ListN.{replicate}
use mir.Syntax.{w8}
use mir.Val.{Fits}
use Rattle.text_fields.specs.Blocks.{is_small, are_small}

-- the lanes of a list by their places
abbrev pub listing : List ℕ → ℕ → ℕ → List ℕ
listing xs at zero = []
listing xs at (suc n) = get_or xs at 0 ∷ listing xs (suc at) n

listing_behind : (x : ℕ) (xs : List ℕ) (at n : ℕ) → listing (x ∷ xs) (suc at) n ≡ listing xs at n
listing_behind x xs at zero = refl
listing_behind x xs at (suc n) = ap (λ rest. get_or xs at 0 ∷ rest) (listing_behind x xs (suc at) n)

pub is_listing : (xs : List ℕ) (n : ℕ) → length xs ≡ n → listing xs 0 n ≡ xs
is_listing [] zero same = refl
is_listing [] (suc n) same = absurd (omega arith)
is_listing (x ∷ xs) zero same = absurd (omega arith)
is_listing (x ∷ xs) (suc n) same = ap (λ rest. x ∷ rest) (listing_behind x xs 0 n ∙ is_listing xs n (omega arith))

-- a comparison of two lanes, as a mask
abbrev pub less : ℕ → ℕ → ℕ
less a b = cond (ltb a b) 255 0

-- what the mask of a comparison takes of two lanes
abbrev pub taken : ℕ → ℕ → ℕ → ℕ → ℕ
taken a b x y = cond (top 7 (less a b)) x y

taken_less : (a b x y : ℕ) → a < b → taken a b x y ≡ x
taken_less a b x y lower = ap (λ t. cond (top 7 (cond t 255 0)) x y) (lt-ltb a b lower)

taken_else : (a b x y : ℕ) → b ≤ a → taken a b x y ≡ y
taken_else a b x y higher = ap (λ t. cond (top 7 (cond t 255 0)) x y) (le-ltb a b higher)

least_one : (x y : ℕ) → taken x y x y ≡ min x y
least_one x y =
    elim (cases_lt x y) [
      | inl lower ↦ taken_less x y x y lower ∙ omega arith
      | inr higher ↦ taken_else x y x y higher ∙ omega arith
    ]

greatest_one : (x y : ℕ) → taken x y y x ≡ max x y
greatest_one x y =
    elim (cases_lt x y) [
      | inl lower ↦ taken_less x y y x lower ∙ omega arith
      | inr higher ↦ taken_else x y y x higher ∙ omega arith
    ]

pub least_is : (xs ys : List ℕ) → sel_l (map (top 7) (zip2 less xs ys)) xs ys ≡ zip2 (λ x y. min x y) xs ys
least_is [] ys = refl
least_is (x ∷ xs) [] = refl
least_is (x ∷ xs) (y ∷ ys) = rw (least_one x y, least_is xs ys) refl

pub greatest_is : (xs ys : List ℕ) → sel_l (map (top 7) (zip2 less xs ys)) ys xs ≡ zip2 (λ x y. max x y) xs ys
greatest_is [] ys = refl
greatest_is (x ∷ xs) [] = refl
greatest_is (x ∷ xs) (y ∷ ys) = rw (greatest_one x y, greatest_is xs ys) refl

-- what is taken away of each lane, and never more than is there
without_one : (x most : ℕ) → x < 256 → most < 256 → (taken x most most x + (256 - most)) % 256 ≡ x - most
without_one x most fits small =
    elim (cases_lt x most) [
      | inl lower ↦ ap (λ t. (t + (256 - most)) % 256) (taken_less x most most x lower) ∙ omega arith
      | inr higher ↦ ap (λ t. (t + (256 - most)) % 256) (taken_else x most most x higher) ∙ omega arith
    ]

-- what is added to each lane, up to 255
with_one : (x more : ℕ) → x < 256 → more < 256 → (more + taken x (255 - more) x (255 - more)) % 256 ≡ min 255 (more + x)
with_one x more fits small =
    elim (cases_lt x (255 - more)) [
      | inl lower ↦ ap (λ t. (more + t) % 256) (taken_less x (255 - more) x (255 - more) lower) ∙ omega arith
      | inr higher ↦ ap (λ t. (more + t) % 256) (taken_else x (255 - more) x (255 - more) higher) ∙ omega arith
    ]

pub with_is : (more : ℕ) (xs : List ℕ) (n : ℕ) → more < 256 → Each1 (Fits w8) xs → length xs ≡ n
    → zip2 (λ a b. (a + b) % 256) (replicate n more)
    (sel_l (map (top 7) (zip2 less xs (replicate n (255 - more)))) xs (replicate n (255 - more)))
    ≡ map (λ x. min 255 (more + x)) xs
with_is more [] zero small fits same = refl
with_is more [] (suc n) small fits same = absurd (omega arith)
with_is more (x ∷ xs) zero small fits same = absurd (omega arith)
with_is more (x ∷ xs) (suc n) small fits same =
    rw (with_one x more fits.0.fits small, with_is more xs n small fits.1 (omega arith)) refl

pub without_is : (most : ℕ) (xs : List ℕ) (n : ℕ) → most < 256 → Each1 (Fits w8) xs → length xs ≡ n
    → zip2 (λ a b. (a + (256 - b)) % 256)
    (sel_l (map (top 7) (zip2 less xs (replicate n most))) (replicate n most) xs) (replicate n most)
    ≡ map (λ x. x - most) xs
without_is most [] zero small fits same = refl
without_is most [] (suc n) small fits same = absurd (omega arith)
without_is most (x ∷ xs) zero small fits same = absurd (omega arith)
without_is most (x ∷ xs) (suc n) small fits same =
    rw (without_one x most fits.0.fits small, without_is most xs n small fits.1 (omega arith)) refl

-- the mask of lanes above a bound has no bit where none is
mask_empty : (xs : List ℕ) → eqb (mask_l (map (λ x. ltb 15 x) xs)) 0 ≡ are_small xs
mask_empty [] = refl
mask_empty (x ∷ xs) =
    let rest = mask_empty xs in
    elim (cases_lt 15 x) [
      | inl above ↦ grind (arith, nat_tests)
      | inr small ↦ grind (arith, nat_tests)
    ]

pub tested : (xs : List ℕ) → length xs ≡ 16
    → eqb (mask_l (map (top 7) (zip2 less (replicate 16 15) xs)) % 2 ^ 64) 0 ≡ are_small xs
tested xs long =
    let compared : map (top 7) (zip2 less (replicate 16 15) xs) ≡ map (λ x. ltb 15 x) xs =
    tops_compared w8 ltb (replicate 16 15) xs ∙ zip2_splat_left ltb 15 16 xs long in
    let few : length (map (λ x. ltb 15 x) xs) ≤ 64 = omega (arith, length-map xs (λ x. ltb 15 x)) in
    ap (λ ms. eqb (mask_l ms % 2 ^ 64) 0) compared
    ∙ ap (λ (m : ℕ). eqb m 0) (mask_l-mod (map (λ x. ltb 15 x) xs) 64 few)
    ∙ mask_empty xs

-- the greater of two lanes is small where both are
small_one : (x y : ℕ) → is_small (max x y) ≡ (is_small x && is_small y)
small_one x y = grind (arith, nat_tests)

and_pairs : (a b u v : Bool) → ((a && b) && (u && v)) ≡ ((a && u) && (b && v))
and_pairs true true u v = refl
and_pairs true false true v = refl
and_pairs true false false v = refl
and_pairs false b u v = refl

pub small_both : (xs ys : List ℕ) → length xs ≡ length ys
    → are_small (zip2 (λ x y. max x y) xs ys) ≡ (are_small xs && are_small ys)
small_both [] [] same = refl
small_both [] (y ∷ ys) same = absurd (omega arith)
small_both (x ∷ xs) [] same = absurd (omega arith)
small_both (x ∷ xs) (y ∷ ys) same =
    rw (small_one x y, small_both xs ys (omega arith)) (and_pairs (is_small x) (is_small y) (are_small xs) (are_small ys))
