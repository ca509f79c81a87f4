-- The bearer that a downlink packet takes, as a function: of the first among the ranks of all candidates.
use Rattle.std.specs.Prelude.{
  ℕ,
  ◌==◌,
  ◌&&◌,
  ◌||◌,
  nat_lt,
  Bool,
  List,
  [],
  ◌∷◌,
  length,
  map,
  filter,
  Option,
  Some,
  None,
  if◌then◌else◌,
}
use Rattle.std.specs.List.{flat_map, list_any}
use Rattle.tft_codec.specs.declared.tft.BearerFilters.{BearerFilters}
use Rattle.tft_match.specs.declared.direction.Direction.TheVariants.{Down}
use Rattle.tft_match.specs.Fit.{fits}
use Rattle.tft_match.specs.Choice.{Rank, rank_of, Takes}

-- whether a rank is before another one: by precedence, then by index, then by identifier
abbrev pub is_before : Rank → Rank → Bool
is_before (precedence, index, id) (precedence', index', id') =
    nat_lt precedence precedence' || (precedence == precedence')
    && (nat_lt index index' || (index == index') && nat_lt id id')

-- the earlier of two ranks, of which the second may be missing · the first of ranks
abbrev pub earlier_of : Rank → Option Rank → Rank
earlier_of rank None = rank
earlier_of rank (Some other) = if is_before other rank then other else rank

abbrev pub first_of : List Rank → Option Rank
first_of [] = None
first_of (rank ∷ ranks) = Some (earlier_of rank (first_of ranks))

-- the ranks of the filters that the packet fits
abbrev pub candidate_ranks : List BearerFilters → List ℕ → List Rank
candidate_ranks rows packet = flat_map (λ row. map (rank_of row) (filter (fits Down packet) row.filters)) rows

-- whether the default bearer is there without filters
abbrev pub has_default : List BearerFilters → Bool
has_default rows = list_any (λ row. row.index == 0 && (length row.filters == 0)) rows

-- the bearer of the first rank, else the default bearer, where it may take the packet
abbrev pub bearer_by : Option Rank → Bool → Option ℕ
bearer_by (Some rank) default = Some rank.1
bearer_by None default = if default then Some 0 else None

unfoldable pub chosen : List BearerFilters → List ℕ → Option ℕ
chosen rows packet = bearer_by (first_of (candidate_ranks rows packet)) (has_default rows)

-- it is what the packet takes
abbrev pub ChosenIsTaken : Type 0
ChosenIsTaken = (rows : List BearerFilters) (packet : List ℕ) → Takes rows packet (chosen rows packet)
