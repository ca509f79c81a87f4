-- Which bearers a session has.
use Rattle.std.specs.Prelude.{ℕ, ◌==◌, Bool, not, ◌&&◌, List, Option}
use Rattle.std.specs.List.{list_any, find, range_with_len}
use Rattle.std.specs.Option.{option_map, option_and_then}
use Rattle.bearer_state.specs.declared.bearer.Bearer.{Bearer}
use Rattle.bearer_state.specs.declared.version.ActiveBearer.{ActiveBearer}
use Rattle.bearer_state.specs.Bearer.{index_of, is_active, is_asked}
use Rattle.bearer_state.specs.Version.{active_in}

-- the bearer of an index
abbrev pub at_index : List Bearer → ℕ → Option Bearer
at_index bearers index = find (λ (bearer : Bearer). index_of bearer == index) bearers

abbrev pub has_index : List Bearer → ℕ → Bool
has_index bearers index = list_any (λ (bearer : Bearer). index_of bearer == index) bearers

-- the least of the indices 0 to 10 that no bearer has
abbrev pub least_free : List Bearer → Option ℕ
least_free bearers = find (λ index. not (has_index bearers index)) (range_with_len 0 11)

-- an active bearer of an EBI, the default one or another
abbrev pub has_active : List Bearer → ℕ → Bool
has_active bearers ebi = list_any (is_active ebi) bearers

-- an active bearer of an EBI that isn't the default bearer
abbrev pub is_dedicated : ℕ → Bearer → Bool
is_dedicated ebi bearer = is_active ebi bearer && not (index_of bearer == 0)

abbrev pub has_dedicated : List Bearer → ℕ → Bool
has_dedicated bearers ebi = list_any (is_dedicated ebi) bearers

-- a bearer that was asked for under a sequence number
abbrev pub has_asked : List Bearer → ℕ → Bool
has_asked bearers seq = list_any (is_asked seq) bearers

-- the index of the active bearer of an EBI
abbrev pub active_index : List Bearer → ℕ → Option ℕ
active_index bearers ebi = option_map index_of (find (is_active ebi) bearers)

-- the default bearer
abbrev pub default_of : List Bearer → Option ActiveBearer
default_of bearers =
    option_and_then (λ (bearer : Bearer). active_in bearer bearer.phase) (at_index bearers 0)
