-- Which bearer a downlink packet takes: that of the first filter in the order of evaluation (TS 24.008, 10.5.6.12).
use Rattle.std.specs.Prelude.{◌≡◌, ℕ, ◌<◌, nat_eq, ◌⊎◌, List, [], map, Option, Some, None}
use Rattle.std.specs.List.{All, Contains, IsDistinct}
use Rattle.std.specs.List.Sorted.{IsStrictlyIncreasing}
use Rattle.tft_codec.specs.Filter.{ids}
use Rattle.tft_codec.specs.declared.filter.Filter.{Filter}
use Rattle.tft_codec.specs.declared.tft.BearerFilters.{BearerFilters}
use Rattle.tft_match.specs.declared.direction.Direction.TheVariants.{Down}
use Rattle.tft_match.specs.Fit.{Fits}

-- what orders the filters: the precedence, the bearer's index, the filter's identifier
abbrev pub Rank : Type 0
Rank = ℕ × ℕ × ℕ

abbrev pub rank_of : BearerFilters → Filter → Rank
rank_of row filter = (filter.precedence, row.index, filter.id)

-- the first of these that differ decides, and the lower is first
abbrev pub IsBefore : Rank → Rank → Type 0
IsBefore (precedence, index, id) (precedence', index', id') =
    (precedence < precedence')
    ⊎ (precedence ≡ precedence') × (index < index')
    ⊎ (precedence ≡ precedence') × (index ≡ index') × (id < id')

-- a filter of a row that the downlink packet fits
pub record IsCandidate (rows : List BearerFilters) (packet : List ℕ) (row : BearerFilters)
    (filter : Filter) : Type 0 where
  pub in_rows : Contains rows row
  pub in_row : Contains row.filters filter
  pub fits : Fits Down packet filter

abbrev pub NoCandidate : List BearerFilters → List ℕ → Type 0
NoCandidate rows packet = (row : BearerFilters) (filter : Filter) → ¬ IsCandidate rows packet row filter

-- a candidate that no candidate is before
pub record IsFirst (rows : List BearerFilters) (packet : List ℕ) (row : BearerFilters) (filter : Filter) : Type 0 where
  pub candidate : IsCandidate rows packet row filter
  pub none_before : (other_row : BearerFilters) (other : Filter) → IsCandidate rows packet other_row other
      → ¬ IsBefore (rank_of other_row other) (rank_of row filter)

-- the default bearer is there, and takes what fits no filter: it has no filters itself
abbrev pub HasDefault : List BearerFilters → Type 0
HasDefault rows = Contains rows (record { index = 0; filters = [] })

-- the index of the bearer that the packet takes, where it takes one
pub data Takes : List BearerFilters → List ℕ → Option ℕ → Type 0 where
  by_filter : (rows : List BearerFilters) (packet : List ℕ) (row : BearerFilters) (filter : Filter)
      → IsFirst rows packet row filter → Takes rows packet (Some row.index)
  by_default : (rows : List BearerFilters) (packet : List ℕ)
      → NoCandidate rows packet → HasDefault rows → Takes rows packet (Some 0)
  none : (rows : List BearerFilters) (packet : List ℕ)
      → NoCandidate rows packet → ¬ HasDefault rows → Takes rows packet None

-- rows of different bearers, in the order of their indices, each with filters of different identifiers
pub record AreBearers (rows : List BearerFilters) : Type 0 where
  pub rise : IsStrictlyIncreasing (map (λ row. row.index) rows)
  pub differ : All (λ row. IsDistinct nat_eq (ids row.filters)) rows

-- among such rows there is one first candidate at most
abbrev pub OneFilterDecides : Type 0
OneFilterDecides = (rows : List BearerFilters) (packet : List ℕ) (row other_row : BearerFilters) (filter other : Filter)
    → AreBearers rows → IsFirst rows packet row filter → IsFirst rows packet other_row other
    → (row ≡ other_row) × (filter ≡ other)
