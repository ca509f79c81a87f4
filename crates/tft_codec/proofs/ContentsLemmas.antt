-- Contents that are read are those of the components, and those of components are read again.
use Rattle.std.proofs.Common.{◌≡◌, ℕ, zero, suc, ◌≤◌, Bool, true, false, cond, nat_eq, List, [], ◌∷◌, ◌++◌, length, map, Option, Some, None, refl, sym, ap, subst, ◌∙◌, append_assoc, arith}
use Rattle.std.specs.List.{AllByRecursion, IsDistinct}
use Rattle.std.proofs.lemmas.Cmp.{nat_eq_equiv}
use Rattle.std.proofs.lemmas.List.{append-nil, length-append}
use Rattle.std.proofs.lemmas.List.Concat.{flat_map-cons}
use Rattle.std.proofs.lemmas.Map.Keys.{IsDistinct-push}
use Rattle.tft_codec.specs.declared.component.Component.{Component}
use Rattle.tft_codec.specs.Component.{row, type_octet, component_text, contents, IsComponent, AreComponents, has}
use Rattle.tft_codec.specs.Reading.{◌>>=◌, component_of, components_from, components_of}
use Rattle.tft_codec.proofs.Lists.{new_from_distinct, none_differ}
use Rattle.wire_octets.specs.Numbers.{AreOctets}
use Rattle.tft_codec.proofs.Fields.{octets_rest, bind_some, some_is}
use Rattle.tft_codec.proofs.ComponentLemmas.{component_found, component_again}

-- each number is new behind those that were seen and those before it
abbrev pub AreFresh : List ℕ → List ℕ → Type 0
AreFresh seen [] = Unit {0}
AreFresh seen (x ∷ xs) = (has seen x ≡ false) × AreFresh (seen ++ x ∷ []) xs

pub distinct_from_fresh : (seen xs : List ℕ) → IsDistinct nat_eq seen → AreFresh seen xs
    → IsDistinct nat_eq (seen ++ xs)
distinct_from_fresh seen [] differ fresh = rw (append-nil seen) differ
distinct_from_fresh seen (x ∷ xs) differ fresh =
    subst (IsDistinct nat_eq) (append_assoc seen (x ∷ []) xs)
    (distinct_from_fresh (seen ++ x ∷ []) xs (IsDistinct-push nat_eq_equiv seen x differ fresh.0) fresh.1)

pub fresh_from_distinct : (seen xs : List ℕ) → IsDistinct nat_eq (seen ++ xs) → AreFresh seen xs
fresh_from_distinct seen [] differ = tt
fresh_from_distinct seen (x ∷ xs) differ = (
  new_from_distinct seen x xs differ,
  fresh_from_distinct (seen ++ x ∷ []) xs (subst (IsDistinct nat_eq) (sym (append_assoc seen (x ∷ []) xs)) differ),
)

-- what reading the contents of a filter gives
pub record AreTaken (seen octets : List ℕ) (cs : List Component) : Type 0 where
  pub text : octets ≡ contents cs
  pub fit : AllByRecursion IsComponent cs
  pub fresh : AreFresh seen (map type_octet cs)

-- a test behind which nothing was found at true
unless : {A : Type 0} (b : Bool) (o : Option A) (x : A) → cond b None o ≡ Some x → (b ≡ false) × (o ≡ Some x)
unless true o x e = absurd cc
unless false o x e = (refl, e)

contents_taken : (bound : ℕ) (seen octets : List ℕ) (cs : List Component) → AreOctets octets
    → components_from bound seen octets ≡ Some cs → AreTaken seen octets cs
unfolding components_from
contents_taken zero seen [] cs small e =
    subst (AreTaken seen []) (some_is [] cs e) (record { text = refl; fit = tt; fresh = tt })
contents_taken zero seen (kind ∷ octets) cs small e = absurd cc
contents_taken (suc bound) seen [] cs small e =
    subst (AreTaken seen []) (some_is [] cs e) (record { text = refl; fit = tt; fresh = tt })
contents_taken (suc bound) seen (kind ∷ octets) cs small e =
    let first = bind_some (component_of kind octets)
    (λ first. (cond (has seen kind) None (components_from bound (seen ++ kind ∷ []) first.1)) >>= λ others. Some
    (first.0 ∷ others)) cs e in
    let others = bind_some (cond (has seen kind) None (components_from bound (seen ++ kind ∷ []) first.0.1))
    (λ others. Some (first.0.0 ∷ others)) cs first.2 in
    let tested = unless (has seen kind) (components_from bound (seen ++ kind ∷ []) first.0.1) others.0 others.1 in
    let f = component_found kind octets first.0.0 first.0.1 first.1 in
    let taken = f.taken (octets_rest kind octets small) in
    let later = contents_taken bound (seen ++ kind ∷ []) first.0.1 others.0 taken.0.rest_small tested.1 in
    let whole : kind ∷ octets ≡ contents (first.0.0 ∷ others.0)
    = ap (λ (k : ℕ). k ∷ octets) f.kind_is
    ∙ ap (λ (t : List ℕ). type_octet first.0.0 ∷ t)
    (taken.0.parts ∙ ap (λ (t : List ℕ). (row first.0.0).1 ++ t) later.text)
    ∙ sym (flat_map-cons component_text first.0.0 others.0) in
    subst (AreTaken seen (kind ∷ octets)) (some_is (first.0.0 ∷ others.0) cs others.2) (record {
      text = whole;
      fit = (taken.1, later.fit);
      fresh = subst (λ (k : ℕ). (has seen k ≡ false) × AreFresh (seen ++ k ∷ []) (map type_octet others.0)) f.kind_is
          (tested.0, later.fresh);
    })

pub components_taken : (octets : List ℕ) (cs : List Component) → AreOctets octets → components_of octets ≡ Some cs
    → (octets ≡ contents cs) × AreComponents cs
components_taken octets cs small e =
    let taken = contents_taken (length octets) [] octets cs small e in (
      taken.text,
      record { fit = taken.fit; differ = distinct_from_fresh [] (map type_octet cs) none_differ taken.fresh },
    )

contents_again : (cs : List Component) (seen : List ℕ) (bound : ℕ) → AllByRecursion IsComponent cs
    → AreFresh seen (map type_octet cs) → length (contents cs) ≤ bound
    → components_from bound seen (contents cs) ≡ Some cs
unfolding components_from
contents_again [] seen zero fit fresh enough = refl
contents_again [] seen (suc bound) fit fresh enough = refl
contents_again (c ∷ cs) seen zero fit fresh enough =
    absurd (omega (arith, ap length (flat_map-cons component_text c cs), enough))
contents_again (c ∷ cs) seen (suc bound) fit fresh enough =
    let parts : contents (c ∷ cs) ≡ type_octet c ∷ (row c).1 ++ contents cs = flat_map-cons component_text c cs in
    let left : length (contents cs) ≤ bound
    = omega (arith, ap length parts, length-append (row c).1 (contents cs), enough) in
    ap (components_from (suc bound) seen) parts
    ∙ rw (
      component_again c (contents cs) fit.0,
      fresh.0,
      contents_again cs (seen ++ type_octet c ∷ []) bound fit.1 fresh.1 left,
    ) refl

pub components_again : (cs : List Component) → AreComponents cs → components_of (contents cs) ≡ Some cs
components_again cs kept =
    contents_again cs [] (length (contents cs)) kept.fit (fresh_from_distinct [] (map type_octet cs) kept.differ)
    (omega arith)
