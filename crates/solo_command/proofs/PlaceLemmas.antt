-- What stands at a place of a list that grew, or in which a value was set.
use Rattle.std.proofs.Common.{◌≡◌, ◌≢◌, ℕ, zero, suc, ◌<◌, Some, List, [], ◌∷◌, ◌++◌, length, set, get_or, slice_get, length-set, get_or-set_same, get_or-set_other, refl, sym, ap, subst, ◌∙◌, arith}
use Rattle.std.proofs.lemmas.Option.{get_or_from_slice_get, slice_get-get_or}
use Rattle.solo_command.specs.Places.{HasAt}

-- what is found at a place is what holds there
pub value_at : {X : Type 0} (items : List X) (slot place : ℕ) (P : X → Type 0) (value : X) → HasAt items slot P
    → place ≡ slot
    → value ≡ get_or items place value → P value
value_at items slot place P value has at is =
    let same : has.value ≡ value = sym (get_or_from_slice_get items slot has.value value has.found)
    ∙ ap (λ k. get_or items k value) (sym at) ∙ sym is in
    subst P same has.holds

pub has_at_set : {X : Type 0} (items : List X) (slot : ℕ) (P : X → Type 0) (value : X) → slot < length items → P value
    → HasAt (set items slot value) slot P
has_at_set items slot P value within holds = record {
  value = value;
  found =
      let inside : slot < length (set items slot value) = omega (arith, length-set items slot value) in
      slice_get-get_or (set items slot value) slot value inside
      ∙ ap (λ r. Some r) (get_or-set_same items slot value value within);
  holds = holds;
}

pub has_at_other : {X : Type 0} (items : List X) (own slot : ℕ) (P : X → Type 0) (value : X) → slot < length items
    → slot ≢ own
    → HasAt items slot P → HasAt (set items own value) slot P
has_at_other items own slot P value within other has = record {
  value = has.value;
  found =
      let inside : slot < length (set items own value) = omega (arith, length-set items own value) in
      slice_get-get_or (set items own value) slot has.value inside
      ∙ ap (λ r. Some r) (get_or-set_other items own slot value has.value other)
      ∙ sym (slice_get-get_or items slot has.value within) ∙ has.found;
  holds = has.holds;
}

slice_get-append : {X : Type 0} (xs ys : List X) (i : ℕ) (x : X) → slice_get xs i ≡ Some x
    → slice_get (xs ++ ys) i ≡ Some x
slice_get-append [] ys i x found = cc
slice_get-append (y ∷ xs) ys zero x found = found
slice_get-append (y ∷ xs) ys (suc i) x found = slice_get-append xs ys i x found

slice_get-last : {X : Type 0} (xs : List X) (x : X) → slice_get (xs ++ x ∷ []) (length xs) ≡ Some x
slice_get-last [] x = refl
slice_get-last (y ∷ xs) x = slice_get-last xs x

pub has_at_more : {X : Type 0} (old new : List X) (value : X) (slot : ℕ) (P : X → Type 0) → new ≡ old ++ value ∷ []
    → HasAt old slot P → HasAt new slot P
has_at_more old new value slot P added has = record {
  value = has.value;
  found = rw added (slice_get-append old (value ∷ []) slot has.value has.found);
  holds = has.holds;
}

pub has_at_last : {X : Type 0} (old new : List X) (value : X) (own : ℕ) (P : X → Type 0) → new ≡ old ++ value ∷ []
    → own ≡ length old → P value → HasAt new own P
has_at_last old new value own P added last holds = record {
  value = value;
  found = rw (added, last) (slice_get-last old value);
  holds = holds;
}

-- what follows of a value
pub has_at_map : {X : Type 0} (items : List X) (slot : ℕ) (P Q : X → Type 0) → ((x : X) → P x → Q x)
    → HasAt items slot P → HasAt items slot Q
has_at_map items slot P Q follows has =
    record { value = has.value; found = has.found; holds = follows has.value has.holds }
