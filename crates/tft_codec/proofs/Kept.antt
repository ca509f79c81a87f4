-- What lists of filters keep, as they grow.
use Rattle.std.proofs.Common.{◌≡◌, ℕ, suc, ◌+◌, ◌<◌, ◌≤◌, true, false, nat_eq, List, [], ◌∷◌, ◌++◌, length, get_or, take, drop, drop-cons, sym, ap, subst, ◌∙◌, inl, inr}
use Rattle.std.specs.List.{list_any, AllByRecursion, IsDistinct}
use Rattle.std.proofs.lemmas.Cmp.{nat_eq_equiv}
use Rattle.std.proofs.lemmas.List.{map_push, map-append, length-map, take-append-drop, take_more}
use Rattle.std.proofs.lemmas.Bool.{eqb-true, or_cases}
use Rattle.std.proofs.lemmas.Map.Keys.{IsDistinct-push}
use Rattle.std.proofs.lemmas.Map.Steps.{length-le_from_distinct_below}
use Rattle.tft_codec.specs.declared.filter.Filter.{Filter}
use Rattle.tft_codec.specs.Component.{has}
use Rattle.tft_codec.specs.Filter.{ids, IsFilter, AreFilters}
use Rattle.tft_codec.proofs.Lists.{none_differ, each_push, each_middle, new_from_distinct, has_map}

-- the element at a place, between those before and those after
pub parted : {X : Type 0} (xs : List X) (i : ℕ) (d : X) → i < length xs
    → xs ≡ take i xs ++ get_or xs i d ∷ drop (suc i) xs
parted xs i d within = sym (take-append-drop i xs) ∙ ap (λ back. take i xs ++ back) (drop-cons xs i d within)

pub none_filters : AreFilters []
none_filters = record { each = tt; differ = none_differ }

pub filters_push : (fs : List Filter) (f : Filter) → AreFilters fs → IsFilter f → has (ids fs) f.id ≡ false
    → AreFilters (fs ++ f ∷ [])
filters_push fs f kept fits new = record {
  each = each_push IsFilter fs f kept.each fits;
  differ = rw (map_push (λ (g : Filter). g.id) fs f) (IsDistinct-push nat_eq_equiv (ids fs) f.id kept.differ new);
}

pub filters_step : (fs : List Filter) (i : ℕ) (f : Filter) → i < length fs → f ≡ get_or fs i f
    → AreFilters (take i fs) → IsFilter f → list_any (λ g. nat_eq f.id g.id) (take i fs) ≡ false
    → AreFilters (take (i + 1) fs)
filters_step fs i f within at kept fits new =
    let absent : has (ids (take i fs)) f.id ≡ false = has_map (λ (g : Filter). g.id) (take i fs) f.id ∙ new in
    rw (take_more fs i f within, ← at) (filters_push (take i fs) f kept fits absent)

pub filter_new : (fs : List Filter) (f : Filter) (rest : List Filter) → AreFilters (fs ++ f ∷ rest)
    → has (ids fs) f.id ≡ false
filter_new fs f rest kept =
    new_from_distinct (ids fs) f.id (ids rest)
    (subst (IsDistinct nat_eq) (map-append (λ (g : Filter). g.id) fs (f ∷ rest)) kept.differ)

pub filter_fits : (fs : List Filter) (f : Filter) (rest : List Filter) → AreFilters (fs ++ f ∷ rest) → IsFilter f
filter_fits fs f rest kept = each_middle IsFilter fs f rest kept.each

pub filter_repeated : (fs : List Filter) (i : ℕ) (f : Filter) → i < length fs → f ≡ get_or fs i f
    → list_any (λ g. nat_eq f.id g.id) (take i fs) ≡ true → AreFilters fs → ⊥
filter_repeated fs i f within at old kept =
    let whole : fs ≡ take i fs ++ f ∷ drop (suc i) fs
    = parted fs i f within ∙ ap (λ (g : Filter). take i fs ++ g ∷ drop (suc i) fs) (sym at) in
    let new : has (ids (take i fs)) f.id ≡ false
    = filter_new (take i fs) f (drop (suc i) fs) (subst AreFilters whole kept) in
    let there : has (ids (take i fs)) f.id ≡ true = has_map (λ (g : Filter). g.id) (take i fs) f.id ∙ old in
    cc

pub filter_at_fits : (fs : List Filter) (i : ℕ) (f : Filter) → i < length fs → f ≡ get_or fs i f → AreFilters fs
    → IsFilter f
filter_at_fits fs i f within at kept =
    let whole : fs ≡ take i fs ++ f ∷ drop (suc i) fs
    = parted fs i f within ∙ ap (λ (g : Filter). take i fs ++ g ∷ drop (suc i) fs) (sym at) in
    filter_fits (take i fs) f (drop (suc i) fs) (subst AreFilters whole kept)

below_from_has : (fs : List Filter) → AllByRecursion IsFilter fs → (q : ℕ) → list_any (nat_eq q) (ids fs) ≡ true
    → q < 16
below_from_has [] each q there = absurd cc
below_from_has (f ∷ fs) each q there =
    elim (or_cases (nat_eq q f.id) (list_any (nat_eq q) (ids fs)) there) [
      | inl here ↦ rw (eqb-true q f.id here) each.0.id
      | inr later ↦ below_from_has fs each.1 q later
    ]

-- identifiers that differ are at most 16
pub filters_few : (fs : List Filter) → AreFilters fs → length fs ≤ 16
filters_few fs kept =
    let few : length (ids fs) ≤ 16
    = length-le_from_distinct_below (ids fs) 16 kept.differ (below_from_has fs kept.each) in
    subst (λ n. n ≤ 16) (length-map fs (λ (f : Filter). f.id)) few
