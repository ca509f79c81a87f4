-- Where a list with one more element splits.
use Rattle.std.proofs.Common.{◌≡◌, ◌⊎◌, ◌<◌, inl, inr, List, [], ◌∷◌, ◌++◌, length, All, refl, ap, sym, ◌∙◌, subst, append_assoc, length-append, arith}
use Rattle.std.proofs.Math.Seq.{get_or-append_seam}
use Rattle.std.proofs.lemmas.List.{same_from_push}

-- a list is empty or has a last element
pub record EndsWith {X : Type 0} (xs : List X) : Type 0 where
  pub prefix : List X
  pub last : X
  pub is : xs ≡ prefix ++ last ∷ []

pub ends : {X : Type 0} (x : X) (xs : List X) → EndsWith (x ∷ xs)
ends x [] = record { prefix = []; last = x; is = refl }
ends x (y ∷ ys) =
    let inner = ends y ys in
    record { prefix = x ∷ inner.prefix; last = inner.last; is = ap (λ zs. x ∷ zs) inner.is }

-- the split is at the new element
pub record AtEnd {X : Type 0} (xs before after : List X) (x y : X) : Type 0 where
  pub same : xs ≡ before
  pub is : y ≡ x
  pub nothing : after ≡ []

-- the split is at an older one
pub record Within {X : Type 0} (xs before after : List X) (x y : X) : Type 0 where
  pub rest : List X
  pub split : xs ≡ before ++ x ∷ rest
  pub is : after ≡ rest ++ y ∷ []

-- a list with one more element splits at that one or at an older one
pub split_push : {X : Type 0} (xs before after : List X) (x y : X) → xs ++ y ∷ [] ≡ before ++ x ∷ after
    → AtEnd xs before after x y ⊎ Within xs before after x y
split_push xs before [] x y e =
    let same = same_from_push xs before y x e in
    inl (record { same = same.0; is = same.1; nothing = refl })
split_push xs before (z ∷ zs) x y e =
    let last = ends z zs in
    let same = same_from_push xs (before ++ x ∷ last.prefix) y last.last
    (e ∙ ap (λ rest. before ++ x ∷ rest) last.is ∙ sym (append_assoc before (x ∷ last.prefix) (last.last ∷ []))) in
    inr (record { rest = last.prefix; split = same.0; is = last.is ∙ ap (λ w. last.prefix ++ w ∷ []) (sym same.1) })

-- what holds of each element holds of the one at a split
pub All-split : {X : Type 0} (P : X → Type 0) (xs before after : List X) (x : X) → xs ≡ before ++ x ∷ after → All P xs
    → P x
All-split P xs before after x e all =
    let inside : length before < length (before ++ x ∷ after) = omega (arith, length-append before (x ∷ after)) in
    subst P (get_or-append_seam before x after x) (subst (All P) e all (length before) x inside)
