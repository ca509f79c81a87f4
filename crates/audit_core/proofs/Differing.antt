-- Lists that differ, and those that are the same up to a place.
use Rattle.std.proofs.Common.{◌≡◌, ◌≢◌, ℕ, ◌+◌, ◌<◌, ◌≤◌, Option, Some, None, List, [], ◌∷◌, ◌++◌, length, map, take, drop, get_or, sym, ap, ◌∙◌, inl, inr, arith}
use Rattle.std.proofs.lemmas.Bool.{cases_lt}
use Rattle.std.proofs.lemmas.List.{append_cancel_left, drop_all, length-drop, take-append-drop, take-map, take_all, take_more}
use Rattle.audit_core.proofs.RestLemmas.{drop_mapped, mapped_more}
use Rattle.audit_core.specs.Places.{FirstDifference, first_of}
use Rattle.audit_core.specs.Same.{SameUpTo}

-- lists that differ somewhere aren't the same
pub differ : {X : Type 0} (told made : List X) (stands due : Option X) → FirstDifference told made stands due
    → told ≡ made → ⊥
differ told made stands due first same =
    let left : first.told_left ≡ first.made_left =
    append_cancel_left first.same first.told_left first.made_left
    (sym first.told_parts ∙ same ∙ first.made_parts) in
    first.differ (first.stands_there ∙ ap first_of left ∙ sym first.due_there)

-- an item stands at a place of the list
some_first : {X : Type 0} (rest : List X) → 0 < length rest → first_of rest ≢ None
some_first [] some none = absurd (omega (arith, some))
some_first (x ∷ rest) some none = cc

pub some_there : {X : Type 0} (xs : List X) (i : ℕ) → i < length xs → first_of (drop i xs) ≢ None
some_there xs i low = some_first (drop i xs) (omega (arith, low, length-drop i xs))

-- one item more of what is mapped
pub took : {X Y : Type 0} (f : X → Y) (xs : List X) (i : ℕ) (x : X) → i < length xs → x ≡ get_or xs i x
    → take (i + 1) (map f xs) ≡ take i (map f xs) ++ f x ∷ []
took f xs i x within is =
    take-map f (i + 1) xs ∙ sym (mapped_more f [] xs i x within is)
    ∙ ap (λ prefix. prefix ++ f x ∷ []) (sym (take-map f i xs))

-- a list at a place, mapped
pub mapped_parts : {X Y : Type 0} (f : X → Y) (xs : List X) (i : ℕ) (x : X) → i < length xs → x ≡ get_or xs i x
    → map f xs ≡ take i (map f xs) ++ f x ∷ drop (i + 1) (map f xs)
mapped_parts f xs i x within is =
    sym (take-append-drop i (map f xs)) ∙ ap (λ rest. take i (map f xs) ++ rest) (drop_mapped f xs i x within is)

pub took_one : {X : Type 0} (xs : List X) (i : ℕ) (x : X) → i < length xs → x ≡ get_or xs i x
    → take (i + 1) xs ≡ take i xs ++ x ∷ []
took_one xs i x within is = take_more xs i x within ∙ ap (λ y. take i xs ++ y ∷ []) (sym is)

-- item by item
pub record SamePart {X : Type 0} (told made : List X) (i : ℕ) : Type 0 where
  pub in_told : i ≤ length told
  pub in_made : i ≤ length made
  pub same : take i told ≡ take i made

module _ {X : Type 0} (told made : List X) where
  pub part_next : (i : ℕ) (x y : X) → take (i + 1) told ≡ take i told ++ x ∷ [] → take (i + 1) made ≡ take i made ++ y ∷ []
      → x ≡ y → i < length told → i < length made → SamePart told made i → SamePart told made (i + 1)
  part_next i x y one other is in_told in_made part = record {
    in_told = omega (arith, in_told);
    in_made = omega (arith, in_made);
    same = one ∙ (λ j. part.same j ++ is j ∷ []) ∙ sym other;
  }

  pub part_ends : (i : ℕ) → length made ≤ i → SamePart told made i → SameUpTo told made i
  part_ends i past part = record {
    in_told = part.in_told;
    in_made = part.in_made;
    same = part.same;
    differ = λ low. absurd (omega (arith, low, past));
  }

  pub part_short : (i : ℕ) → length told ≤ i → SamePart told made i → SameUpTo told made i
  part_short i past part = record {
    in_told = part.in_told;
    in_made = part.in_made;
    same = part.same;
    differ = λ low is. some_there made i low (sym is ∙ ap first_of (drop_all i told past));
  }

  pub part_differs : (i : ℕ) (x y : X) → drop i told ≡ x ∷ drop (i + 1) told → drop i made ≡ y ∷ drop (i + 1) made
      → (x ≡ y → ⊥) → SamePart told made i → SameUpTo told made i
  part_differs i x y one other differ part = record {
    in_told = part.in_told;
    in_made = part.in_made;
    same = part.same;
    differ = λ low is.
        let both : Some x ≡ Some y = sym (ap first_of one) ∙ is ∙ ap first_of other in
        let same : x ≡ y = cc in
        differ same;
  }

  -- where lists are the same up to a place, they differ there or are the same
  pub all_same : (i : ℕ) → length told ≤ i → length made ≤ i → SameUpTo told made i → told ≡ made
  all_same i one other up = sym (take_all i told one) ∙ up.same ∙ take_all i made other

  pub first_difference : (i : ℕ) (stands due : Option X) → SameUpTo told made i → stands ≡ first_of (drop i told)
      → due ≡ first_of (drop i made) → (length made ≤ i → stands ≢ due)
      → FirstDifference told made stands due
  first_difference i stands due up one other past = record {
    same = take i told;
    told_left = drop i told;
    made_left = drop i made;
    told_parts = sym (take-append-drop i told);
    made_parts = sym (take-append-drop i made) ∙ ap (λ prefix. prefix ++ drop i made) (sym up.same);
    stands_there = one;
    due_there = other;
    differ = λ is. elim (cases_lt i (length made)) [
      | inl low ↦ up.differ low (sym one ∙ is ∙ other)
      | inr high ↦ past high is
    ];
  }
