-- Lists that are the same, item by item.
use Rattle.std.proofs.Common.{◌≡◌, ℕ, ◌+◌, ◌<◌, ◌↔◌, Bool, true, false, IsTrue, List, [], ◌∷◌, ◌++◌, length, map, take, drop, get_or, flat_map, refl, sym, ap, ◌∙◌, append_assoc, append-nil}
use Rattle.std.proofs.lemmas.Bool.{false≢true}
use Rattle.std.proofs.lemmas.Grind.{flat_map-append}
use Rattle.std.proofs.lemmas.List.{map-append, take_more, drop_more, get_or-map, length-map}

-- what is left of two lists is the same exactly where they are
abbrev pub RestSame : {X : Type 0} → List X → List X → ℕ → Type 0
RestSame xs ys i = (drop i xs ≡ drop i ys) ↔ (xs ≡ ys)

pub drop_mapped : {X Y : Type 0} (f : X → Y) (xs : List X) (i : ℕ) (x : X) → i < length xs → x ≡ get_or xs i x
    → drop i (map f xs) ≡ f x ∷ drop (i + 1) (map f xs)
drop_mapped f xs i x within is =
    drop_more (map f xs) i (f x) (simp length-map within)
    ∙ ap (λ y. y ∷ drop (i + 1) (map f xs)) (get_or-map f xs i x (f x) within ∙ ap f (sym is))

pub drop_next : {X : Type 0} (xs : List X) (i : ℕ) (x : X) → i < length xs → x ≡ get_or xs i x
    → drop i xs ≡ x ∷ drop (i + 1) xs
drop_next xs i x within is = drop_more xs i x within ∙ ap (λ y. y ∷ drop (i + 1) xs) (sym is)

-- what a test says
pub refused : {P : Type 0} → (P → ⊥) → IsTrue false ↔ P
refused none = ((λ yes. absurd (false≢true yes)), (λ p. absurd (none p)))

pub granted : {P : Type 0} → P → IsTrue true ↔ P
granted p = ((λ yes. p), (λ given. refl))

pub denied : {test : Bool} {P : Type 0} → IsTrue test ↔ P → test ≡ false → P → ⊥
denied says fails p = false≢true (sym fails ∙ says.1 p)

module _ {X : Type 0} (xs ys : List X) (i : ℕ) (x y : X) where
  pub rest_next : drop i xs ≡ x ∷ drop (i + 1) xs → drop i ys ≡ y ∷ drop (i + 1) ys → x ≡ y → RestSame xs ys i
      → RestSame xs ys (i + 1)
  rest_next first other same rest = (
    (λ later. rest.0 (first ∙ (λ j. same j ∷ later j) ∙ sym other)),
    (λ whole. ap (drop (i + 1)) whole),
  )

pub longer : {X : Type 0} (xs ys : List X) → (length xs ≡ length ys → ⊥) → xs ≡ ys → ⊥
longer xs ys differ same = differ (ap length same)

-- one item more behind those that were mapped
pub mapped_more : {X Y : Type 0} (f : X → Y) (before : List Y) (xs : List X) (i : ℕ) (x : X) → i < length xs
    → x ≡ get_or xs i x → (before ++ map f (take i xs)) ++ f x ∷ [] ≡ before ++ map f (take (i + 1) xs)
mapped_more f before xs i x within is =
    append_assoc before (map f (take i xs)) (f x ∷ [])
    ∙ ap (λ later. before ++ later) (sym (map-append f (take i xs) (x ∷ [])))
    ∙ ap (λ y. before ++ map f (take i xs ++ y ∷ [])) is
    ∙ ap (λ later. before ++ map f later) (sym (take_more xs i x within))

-- one item more of those that lead to more
pub flat_more : {X Y : Type 0} (f : X → List Y) (xs : List X) (i : ℕ) (x : X) → i < length xs → x ≡ get_or xs i x
    → flat_map f (take i xs) ++ f x ≡ flat_map f (take (i + 1) xs)
flat_more f xs i x within is =
    ap (λ y. flat_map f (take i xs) ++ f y) is
    ∙ ap (λ later. flat_map f (take i xs) ++ later) (sym (append-nil (f (get_or xs i x))))
    ∙ sym (flat_map-append f (take i xs) (get_or xs i x ∷ []))
    ∙ ap (flat_map f) (sym (take_more xs i x within))
