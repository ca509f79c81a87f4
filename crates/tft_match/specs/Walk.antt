-- What a walk over rows keeps: the rank of the first candidate so far.
use Rattle.std.specs.Prelude.{◌≡◌, ℕ, List, Option, Some, None}
use Rattle.tft_codec.specs.declared.filter.Filter.{Filter}
use Rattle.tft_codec.specs.declared.tft.BearerFilters.{BearerFilters}
use Rattle.tft_match.specs.Choice.{Rank, rank_of, IsBefore, IsCandidate}

-- a candidate has this rank
pub record HasRank (rows : List BearerFilters) (packet : List ℕ) (rank : Rank) : Type 0 where
  pub row : BearerFilters
  pub filter : Filter
  pub candidate : IsCandidate rows packet row filter
  pub ranked : rank_of row filter ≡ rank

-- it is the least
pub record IsLeast (rows : List BearerFilters) (packet : List ℕ) (rank : Rank) : Type 0 where
  pub reached : HasRank rows packet rank
  pub none_before : (other : Rank) → HasRank rows packet other → ¬ IsBefore other rank

-- the rank of the first candidate, or None where there is no candidate
abbrev pub IsFirstRank : List BearerFilters → List ℕ → Option Rank → Type 0
IsFirstRank rows packet None = (rank : Rank) → ¬ HasRank rows packet rank
IsFirstRank rows packet (Some rank) = IsLeast rows packet rank

-- a rank that would be the first
abbrev pub Leads : Rank → Option Rank → Type 0
Leads rank None = Unit {0}
Leads rank (Some first) = IsBefore rank first
