-- Where keys differ, an element is known by its key.
use Rattle.std.proofs.Common.{◌≡◌, ℕ, ◌<◌, ◌≢◌, List, length, get_or, map, nat_eq, inl, inr, sym, ap, subst, ◌∙◌, arith}
use Rattle.std.specs.List.{Contains, AllPairs, IsDistinct}
use Rattle.std.specs.List.Sorted.{IsStrictlyIncreasing}
use Rattle.std.specs.Cmp.{unsigned_Decides}
use Rattle.std.proofs.lemmas.Bool.{cases_order}
use Rattle.std.proofs.lemmas.List.{get_or_default, get_or-map, length-map}
use Rattle.std.proofs.lemmas.List.Elements.{All-contains}
use Rattle.std.proofs.lemmas.List.Kept.{AllPairs-from_increasing}
use Rattle.std.proofs.lemmas.Map.Made.{AllPairs-from_IsDistinct}
use Rattle.tft_codec.specs.Filter.{ids}
use Rattle.tft_codec.specs.declared.filter.Filter.{Filter}
use Rattle.tft_codec.specs.declared.tft.BearerFilters.{BearerFilters}
use Rattle.tft_match.specs.Choice.{Rank, OneFilterDecides}
use Rattle.tft_match.proofs.ChoiceLemmas.{same_rank}

-- the key of the element at a place
key_at : {X : Type 0} (key : X → ℕ) (xs : List X) (x : X) → (there : Contains xs x)
    → get_or (map key xs) there.0 0 ≡ key x
key_at key xs x there = get_or-map key xs there.0 x 0 there.1 ∙ ap key there.2

-- numbers that rise differ
rising_differ : (xs : List ℕ) → IsStrictlyIncreasing xs → AllPairs (λ a b. a ≢ b) xs
rising_differ xs rise i j d before within =
    let below = AllPairs-from_increasing xs rise i j d before within in
    λ same. omega arith

module _ {X : Type 0} (key : X → ℕ) (xs : List X) (differ : AllPairs (λ a b. a ≢ b) (map key xs)) where
  -- an earlier element has another key
  key_apart : (x y : X) (earlier : Contains xs x) (back : Contains xs y) → earlier.0 < back.0 → key x ≢ key y
  key_apart x y earlier back before same =
      let within : back.0 < length (map key xs) = rw (length-map xs key) back.1 in
      differ earlier.0 back.0 0 before within (key_at key xs x earlier ∙ same ∙ sym (key_at key xs y back))

  pub element_from_key : (x y : X) → Contains xs x → Contains xs y → key x ≡ key y → x ≡ y
  element_from_key x y first second same =
      elim (cases_order first.0 second.0) [
        | inl place ↦ sym first.2 ∙ get_or_default xs first.0 x y first.1 ∙ ap (λ i. get_or xs i y) place ∙ second.2
        | inr apart ↦ elim apart [
          | inl before ↦ absurd (key_apart x y first second before same)
          | inr behind ↦ absurd (key_apart y x second first behind (sym same))
        ]
      ]

pub one_filter : OneFilterDecides
one_filter rows packet row other_row filter other bearers first second =
    let ranked = same_rank rows packet row filter other_row other first second in
    let in_rows = first.candidate.in_rows in
    let row_same : row ≡ other_row
    = element_from_key (λ (r : BearerFilters). r.index) rows
    (rising_differ (map (λ (r : BearerFilters). r.index) rows) bearers.rise)
    row other_row in_rows second.candidate.in_rows (ap (λ (r : Rank). r.1) ranked) in
    let differ = AllPairs-from_IsDistinct unsigned_Decides (ids row.filters)
    (All-contains (λ (r : BearerFilters). IsDistinct nat_eq (ids r.filters)) rows row bearers.differ in_rows) in
    let inside : Contains row.filters other
    = subst (λ (r : BearerFilters). Contains r.filters other) (sym row_same) second.candidate.in_row in (
      row_same,
      element_from_key (λ (f : Filter). f.id) row.filters differ filter other first.candidate.in_row inside
          (ap (λ (r : Rank). r.2) ranked),
    )
