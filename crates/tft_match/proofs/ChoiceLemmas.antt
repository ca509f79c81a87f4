-- The bearer that a packet takes, from the rank of the first candidate, and that it is one.
use Rattle.std.proofs.Common.{◌≡◌, ℕ, ◌==◌, true, List, [], length, Option, Some, None, All, ap, subst, refl, arith}
use Rattle.std.proofs.lemmas.Bool.{eqb-true}
use Rattle.std.proofs.lemmas.List.{nil_from_length}
use Rattle.std.proofs.lemmas.List.Elements.{All-contains}
use Rattle.tft_codec.specs.declared.filter.Filter.{Filter}
use Rattle.tft_codec.specs.declared.tft.BearerFilters.{BearerFilters}
use Rattle.tft_match.specs.Choice.{Rank, rank_of, IsBefore, IsCandidate, NoCandidate, IsFirst, Takes, by_filter, by_default, none}
use Rattle.tft_match.specs.Walk.{HasRank, IsLeast, IsFirstRank}
use Rattle.tft_match.proofs.RankLemmas.{same_from_neither}

-- the rank of a candidate
pub rank_from : (rows : List BearerFilters) (packet : List ℕ) (row : BearerFilters) (filter : Filter)
    → IsCandidate rows packet row filter → HasRank rows packet (rank_of row filter)
rank_from rows packet row filter candidate = record { row = row; filter = filter; candidate = candidate; ranked = refl }

-- what the walk finds
pub takes_first : (rows : List BearerFilters) (packet : List ℕ) (first : Rank) → IsLeast rows packet first
    → Takes rows packet (Some first.1)
takes_first rows packet first least =
    let row = least.reached.row in
    let filter = least.reached.filter in
    let is_first : IsFirst rows packet row filter = record {
      candidate = least.reached.candidate;
      none_before =
          λ other_row other candidate before. least.none_before (rank_of other_row other)
          (rank_from rows packet other_row other candidate)
          (subst (IsBefore (rank_of other_row other)) least.reached.ranked before);
    } in
    subst (λ (r : Rank). Takes rows packet (Some r.1)) least.reached.ranked (by_filter rows packet row filter is_first)

pub no_candidate : (rows : List BearerFilters) (packet : List ℕ) → IsFirstRank rows packet None
    → NoCandidate rows packet
no_candidate rows packet no_rank row filter candidate =
    no_rank (rank_of row filter) (rank_from rows packet row filter candidate)

pub none_left : (filters : List Filter) → (length filters == 0) ≡ true → filters ≡ []
none_left filters is = nil_from_length filters (eqb-true (length filters) 0 is)

-- bearers without filters have no candidate
pub no_filters : (rows : List BearerFilters) (packet : List ℕ) → All (λ row. row.filters ≡ []) rows
    → NoCandidate rows packet
no_filters rows packet empty row filter candidate =
    let none : row.filters ≡ [] = All-contains (λ row. row.filters ≡ []) rows row empty candidate.in_rows in
    absurd (omega (arith, candidate.in_row.1, ap length none))

-- first candidates have one rank
pub same_rank : (rows : List BearerFilters) (packet : List ℕ) (row : BearerFilters) (filter : Filter)
    (other_row : BearerFilters) (other : Filter)
    → IsFirst rows packet row filter → IsFirst rows packet other_row other
    → rank_of row filter ≡ rank_of other_row other
same_rank rows packet row filter other_row other first second =
    same_from_neither (rank_of row filter) (rank_of other_row other) (second.none_before row filter first.candidate)
    (first.none_before other_row other second.candidate)

-- a packet takes one bearer
pub takes_one : (rows : List BearerFilters) (packet : List ℕ) (answer : Option ℕ) → Takes rows packet answer
    → (other : Option ℕ) → Takes rows packet other → answer ≡ other
takes_one _ _ _ (by_filter rows packet row filter first) _ (by_filter _ _ other_row other second) =
    ap (λ (r : Rank). Some r.1) (same_rank rows packet row filter other_row other first second)
takes_one _ _ _ (by_filter rows packet row filter first) _ (by_default _ _ no_one default) =
    absurd (no_one row filter first.candidate)
takes_one _ _ _ (by_filter rows packet row filter first) _ (none _ _ no_one no_default) =
    absurd (no_one row filter first.candidate)
takes_one _ _ _ (by_default rows packet no_one default) _ (by_filter _ _ row filter first) =
    absurd (no_one row filter first.candidate)
takes_one _ _ _ (by_default rows packet no_one default) _ (by_default _ _ _ _) = refl
takes_one _ _ _ (by_default rows packet no_one default) _ (none _ _ _ no_default) = absurd (no_default default)
takes_one _ _ _ (none rows packet no_one no_default) _ (by_filter _ _ row filter first) =
    absurd (no_one row filter first.candidate)
takes_one _ _ _ (none rows packet no_one no_default) _ (by_default _ _ _ default) = absurd (no_default default)
takes_one _ _ _ (none rows packet no_one no_default) _ (none _ _ _ _) = refl
