-- The steps of a walk over rows and their filters.
use Rattle.std.proofs.Common.{◌≡◌, ℕ, List, [], ◌∷◌, ◌++◌, Option, Some, None, ◌⊎◌, inl, inr, sym, ap, subst, ◌∙◌, refl, arith}
use Rattle.std.specs.List.{Contains}
use Rattle.std.proofs.lemmas.List.Elements.{Contains-append_left, Contains-push, Contains-push_cases}
use Rattle.tft_codec.specs.declared.filter.Filter.{Filter}
use Rattle.tft_codec.specs.declared.tft.BearerFilters.{BearerFilters}
use Rattle.tft_match.specs.declared.direction.Direction.TheVariants.{Down}
use Rattle.tft_match.specs.Fit.{Fits}
use Rattle.tft_match.specs.Choice.{Rank, rank_of, IsBefore}
use Rattle.tft_match.specs.Walk.{HasRank, IsLeast, IsFirstRank, Leads}
use Rattle.tft_match.proofs.RankLemmas.{before_trans, not_before_itself}

-- a row with these filters in place of its own
abbrev pub with_filters : BearerFilters → List Filter → BearerFilters
with_filters row filters = record row { filters = filters }

-- rows, and behind them one with these filters
abbrev pub with_row : List BearerFilters → BearerFilters → List Filter → List BearerFilters
with_row rows row filters = rows ++ with_filters row filters ∷ []

-- nothing is in an empty list
pub none_in_nil : {X : Type 0} (x : X) → ¬ Contains [] x
none_in_nil x there = omega (arith, there.1)

pub no_ranks : (packet : List ℕ) → IsFirstRank [] packet None
no_ranks packet rank there = none_in_nil there.row there.candidate.in_rows

-- a rank of a row's filters is one of the rows before, or one of the row
pub rank_cases : (rows : List BearerFilters) (packet : List ℕ) (row : BearerFilters) (filters : List Filter)
    (rank : Rank)
    → HasRank (with_row rows row filters) packet rank
    → HasRank rows packet rank ⊎ (filter : Filter) × Contains filters filter × Fits Down packet filter
    × (rank_of row filter ≡ rank)
rank_cases rows packet row filters rank there =
    elim (Contains-push_cases rows (with_filters row filters) there.row there.candidate.in_rows) [
      | inl before ↦ inl
          (record {
            row = there.row;
            filter = there.filter;
            candidate
                = record { in_rows = before; in_row = there.candidate.in_row; fits = there.candidate.fits };
            ranked = there.ranked;
          })
      | inr same ↦ inr (
        there.filter,
        subst (λ (r : BearerFilters). Contains r.filters there.filter)
            (sym same) there.candidate.in_row,
        there.candidate.fits,
        ap (λ (r : BearerFilters). rank_of r there.filter) same ∙ there.ranked,
      )
    ]

-- a rank of the rows before stays one
pub rank_before : (rows : List BearerFilters) (packet : List ℕ) (row : BearerFilters) (rank : Rank)
    → HasRank rows packet rank → HasRank (rows ++ row ∷ []) packet rank
rank_before rows packet row rank there = record {
  row = there.row;
  filter = there.filter;
  candidate = record {
    in_rows = Contains-append_left rows (row ∷ []) there.row there.candidate.in_rows;
    in_row = there.candidate.in_row;
    fits = there.candidate.fits;
  };
  ranked = there.ranked;
}

-- a filter of the row that fits has its rank there
pub rank_within : (rows : List BearerFilters) (packet : List ℕ) (row : BearerFilters) (filters : List Filter)
    (filter : Filter)
    → Contains filters filter → Fits Down packet filter
    → HasRank (with_row rows row filters) packet (rank_of row filter)
rank_within rows packet row filters filter inside fits = record {
  row = with_filters row filters;
  filter = filter;
  candidate = record { in_rows = Contains-push rows (with_filters row filters); in_row = inside; fits = fits };
  ranked = refl;
}

-- a row without filters adds no rank
pub rank_without : (rows : List BearerFilters) (packet : List ℕ) (row : BearerFilters) (rank : Rank)
    → HasRank (with_row rows row []) packet rank → HasRank rows packet rank
rank_without rows packet row rank there =
    elim (rank_cases rows packet row [] rank there) [
      | inl before ↦ before
      | inr new ↦ absurd (none_in_nil new.0 new.1)
    ]

-- no rank is before one that leads
pub none_before_leader : (rows : List BearerFilters) (packet : List ℕ) (rank : Rank) (first : Option Rank)
    → IsFirstRank rows packet first → Leads rank first
    → (other : Rank) → HasRank rows packet other → ¬ IsBefore other rank
none_before_leader rows packet rank None none leads other there = λ _. none other there
none_before_leader rows packet rank (Some first) least leads other there =
    λ before. least.none_before other there (before_trans other rank first before leads)

module _ (rows : List BearerFilters) (packet : List ℕ) (row : BearerFilters) where
  -- one filter more
  pub rank_kept : (filters : List Filter) (filter : Filter) (rank : Rank)
      → HasRank (with_row rows row filters) packet rank
      → HasRank (with_row rows row (filters ++ filter ∷ [])) packet rank
  rank_kept filters filter rank there =
      elim (rank_cases rows packet row filters rank there) [
        | inl before ↦ rank_before rows packet (with_filters row (filters ++ filter ∷ [])) rank before
        | inr new ↦ subst (HasRank (with_row rows row (filters ++ filter ∷ [])) packet) new.3
            (rank_within rows packet row (filters ++ filter ∷ []) new.0
            (Contains-append_left filters (filter ∷ []) new.0 new.1) new.2)
      ]

  pub rank_added : (filters : List Filter) (filter : Filter) (rank : Rank)
      → HasRank (with_row rows row (filters ++ filter ∷ [])) packet rank
      → HasRank (with_row rows row filters) packet rank ⊎ Fits Down packet filter × (rank_of row filter ≡ rank)
  rank_added filters filter rank there =
      elim (rank_cases rows packet row (filters ++ filter ∷ []) rank there) [
        | inl before ↦ inl (rank_before rows packet (with_filters row filters) rank before)
        | inr new ↦ elim (Contains-push_cases filters filter new.0 new.1) [
          | inl old ↦ inl
              (subst (HasRank (with_row rows row filters) packet) new.3
              (rank_within rows packet row filters new.0 old new.2))
          | inr same ↦ inr (subst (Fits Down packet) (sym same) new.2, ap (rank_of row) same ∙ new.3)
        ]
      ]

  -- the walk over a row begins
  pub row_begins : (first : Option Rank) → IsFirstRank rows packet first
      → IsFirstRank (with_row rows row []) packet first
  row_begins None none = λ rank there. none rank (rank_without rows packet row rank there)
  row_begins (Some first) least = record {
    reached = rank_before rows packet (with_filters row []) first least.reached;
    none_before = λ other there. least.none_before other (rank_without rows packet row other there);
  }

  -- a filter that the packet doesn't fit changes nothing
  pub row_unfit : (filters : List Filter) (filter : Filter) (first : Option Rank)
      → IsFirstRank (with_row rows row filters) packet first → ¬ Fits Down packet filter
      → IsFirstRank (with_row rows row (filters ++ filter ∷ [])) packet first
  row_unfit filters filter None none unfit = λ rank there.
      elim (rank_added filters filter rank there) [ inl old ↦ none rank old | inr new ↦ unfit new.0 ]
  row_unfit filters filter (Some first) least unfit = record {
    reached = rank_kept filters filter first least.reached;
    none_before =
        λ other there. elim (rank_added filters filter other there)
        [ inl old ↦ least.none_before other old | inr new ↦ λ _. unfit new.0 ];
  }

  -- nor does one behind the first
  pub row_behind : (filters : List Filter) (filter : Filter) (first : Option Rank)
      → IsFirstRank (with_row rows row filters) packet first → ¬ Leads (rank_of row filter) first
      → IsFirstRank (with_row rows row (filters ++ filter ∷ [])) packet first
  row_behind filters filter None none behind = absurd (behind tt)
  row_behind filters filter (Some first) least behind = record {
    reached = rank_kept filters filter first least.reached;
    none_before =
        λ other there. elim (rank_added filters filter other there) [
          | inl old ↦ least.none_before other old
          | inr new ↦ λ before. behind
              (subst (λ r. IsBefore r first) (sym new.1) before)
        ];
  }

  -- one that fits and leads is the first
  pub row_leads : (filters : List Filter) (filter : Filter) (first : Option Rank)
      → IsFirstRank (with_row rows row filters) packet first
      → Leads (rank_of row filter) first → Fits Down packet filter
      → IsLeast (with_row rows row (filters ++ filter ∷ [])) packet (rank_of row filter)
  row_leads filters filter first least leads fits = record {
    reached = rank_within rows packet row (filters ++ filter ∷ []) filter (Contains-push filters filter) fits;
    none_before = λ other there. elim (rank_added filters filter other there) [
      | inl old ↦ none_before_leader (with_row rows row filters) packet (rank_of row filter) first least leads other old
      | inr new ↦ λ before. not_before_itself other (subst (IsBefore other) new.1 before)
    ];
  }
