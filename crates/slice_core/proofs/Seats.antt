-- Lists of which the same is told.
use Rattle.std.proofs.Common.{◌≡◌, List, map, length, sym, ap, ◌∙◌}
use Rattle.std.proofs.lemmas.List.{length-map}
use Rattle.std.proofs.lemmas.Simd.{map-map}

module _ {A B : Type 0} where
  pub as_many : {S : Type 0} (f : A → S) (g : B → S) (xs : List A) (ys : List B) → map f xs ≡ map g ys
      → length xs ≡ length ys
  as_many f g xs ys same = sym (length-map xs f) ∙ (ap length same ∙ length-map ys g)

  -- a part of it
  pub parts_are : {S T : Type 0} (f : A → S) (g : B → S) (part : S → T) (xs : List A) (ys : List B)
      → map f xs ≡ map g ys → map (λ x. part (f x)) xs ≡ map (λ y. part (g y)) ys
  parts_are f g part xs ys same = sym (map-map part f xs) ∙ (ap (map part) same ∙ map-map part g ys)
