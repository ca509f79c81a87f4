-- Lists that a loop makes, one element after another, and what holds of each.
use Rattle.std.proofs.Common.{◌≡◌, ℕ, ◌+◌, ◌<◌, List, [], ◌∷◌, ◌++◌, length, get_or, take, Option, Some, None, IfSome, refl, sym, ap, ◌∙◌}
use Rattle.std.specs.List.{AllByRecursion, filter_map, cons_option}
use Rattle.std.proofs.lemmas.List.{take_more}
use Rattle.std.proofs.lemmas.List.Elements.{filter_map-append}
use Rattle.bearer_state.specs.Bearer.{EachPair}

-- one element more, by what it gives
pub filter_map_more : {X Y : Type 0} (h : X → Option Y) (xs : List X) (i : ℕ) (x : X) → i < length xs
    → x ≡ get_or xs i x
    → filter_map h (take (i + 1) xs) ≡ filter_map h (take i xs) ++ cons_option (h x) []
filter_map_more h xs i x lt is =
    ap (filter_map h) (take_more xs i x lt) ∙ filter_map-append h (take i xs) (get_or xs i x ∷ [])
    ∙ ap (λ y. filter_map h (take i xs) ++ cons_option (h y) []) (sym is)

append-none : {X : Type 0} (xs : List X) → xs ++ [] ≡ xs
append-none [] = refl
append-none (x ∷ xs) = ap (λ ys. x ∷ ys) (append-none xs)

-- it gives nothing, or it gives a y
pub filter_map_skipped : {X Y : Type 0} (h : X → Option Y) (xs : List X) (i : ℕ) (x : X) (made : List Y)
    → i < length xs → x ≡ get_or xs i x
    → h x ≡ None → made ≡ filter_map h (take i xs) → made ≡ filter_map h (take (i + 1) xs)
filter_map_skipped h xs i x made lt is none so_far =
    so_far ∙ sym (append-none (filter_map h (take i xs)))
    ∙ ap (λ given. filter_map h (take i xs) ++ cons_option given []) (sym none)
    ∙ sym (filter_map_more h xs i x lt is)

pub filter_map_pushed : {X Y : Type 0} (h : X → Option Y) (xs : List X) (i : ℕ) (x : X) (y : Y) (made : List Y)
    → i < length xs → x ≡ get_or xs i x
    → h x ≡ Some y → made ≡ filter_map h (take i xs) → made ++ y ∷ [] ≡ filter_map h (take (i + 1) xs)
filter_map_pushed h xs i x y made lt is some so_far =
    ap (λ prefix. prefix ++ y ∷ []) so_far ∙ ap (λ given. filter_map h (take i xs) ++ cons_option given []) (sym some)
    ∙ sym (filter_map_more h xs i x lt is)

each_cons : {Y : Type 0} (Q : Y → Type 0) (given : Option Y) (ys : List Y) → IfSome given Q → AllByRecursion Q ys
    → AllByRecursion Q (cons_option given ys)
each_cons Q None ys some each = each
each_cons Q (Some y) ys some each = (some, each)

-- what each gives, where it gives anything
pub each_given : {X Y : Type 0} (P : X → Type 0) (Q : Y → Type 0) (h : X → Option Y)
    → ((x : X) → P x → IfSome (h x) Q) → (xs : List X)
    → AllByRecursion P xs → AllByRecursion Q (filter_map h xs)
each_given P Q h gives [] each = tt
each_given P Q h gives (x ∷ xs) each =
    each_cons Q (h x) (filter_map h xs) (gives x each.0) (each_given P Q h gives xs each.1)

pairs_cons : {Y : Type 0} (S : Y → Y → Type 0) (given : Option Y) (ys : List Y)
    → IfSome given (λ y. AllByRecursion (S y) ys) → EachPair S ys
    → EachPair S (cons_option given ys)
pairs_cons S None ys some each = each
pairs_cons S (Some y) ys some each = (some, each)

-- likewise of pairs
pub pairs_given : {X Y : Type 0} (R : X → X → Type 0) (S : Y → Y → Type 0) (h : X → Option Y)
    → ((x z : X) → R x z → IfSome (h x) (λ y. IfSome (h z) (S y))) → (xs : List X) → EachPair R xs
    → EachPair S (filter_map h xs)
pairs_given R S h gives [] each = tt
pairs_given {X} {Y} R S h gives (x ∷ xs) each =
    let first : (given : Option Y) → ((z : X) → R x z → IfSome given (λ y. IfSome (h z) (S y)))
    → IfSome given (λ y. AllByRecursion (S y) (filter_map h xs)) =
    λ given. elim given as (λ g. ((z : X) → R x z → IfSome g (λ y. IfSome (h z) (S y)))
    → IfSome g (λ y. AllByRecursion (S y) (filter_map h xs))) [
      | None ↦ λ _. tt
      | Some y ↦ λ behind. each_given (R x) (S y) h behind xs each.0
    ] in
    pairs_cons S (h x) (filter_map h xs) (first (h x) (gives x)) (pairs_given R S h gives xs each.1)
