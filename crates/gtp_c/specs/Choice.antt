-- The choice among the filters that a C caller's structs are.
use Rattle.std.specs.Prelude.{
  ℕ,
  ◌==◌,
  List,
  [],
  ◌∷◌,
  map,
  nat_lt,
  length,
  Bool,
  true,
  not,
  Option,
  Some,
  None,
  is_some,
  is_none,
  if◌then◌else◌,
}
use Rattle.tft_codec.specs.declared.tft.BearerFilters.{BearerFilters}
use Rattle.ipv4_packet.specs.Packet.{packet_of}
use Rattle.ipv4_packet.specs.Refusal.{first_fault}
use Rattle.tft_match.specs.Choice.{Rank}
use Rattle.tft_match.specs.Chosen.{is_before, first_of, candidate_ranks, bearer_by}
use Rattle.tft_match.specs.declared.direction.Direction.{Direction}
use Rattle.tft_match.specs.declared.direction.Direction.TheVariants.{Up, Down}
use Rattle.gtp_c_base.specs.Filter.{filter_said}
use Rattle.gtp_c_base.specs.declared.filter.TftFilter.{TftFilter}
use Rattle.gtp_c.specs.Ip4.{code_of}

abbrev pub direction_said : ℕ → Direction
direction_said up = if up == 0 then Down else Up

-- each filter as a row of its bearer
abbrev pub rows_said : List TftFilter → List BearerFilters
rows_said filters = map (λ said. record { index = said.bearer; filters = filter_said said ∷ [] }) filters

-- whether a rank would be the first, where this is the first one so far
abbrev pub leads : Rank → Option Rank → Bool
leads rank None = true
leads rank (Some first) = is_before rank first

-- 27 for too many filters, the packet's fault, 26 where it takes no bearer
abbrev pub choose_code : List TftFilter → ℕ → List ℕ → ℕ
choose_code filters default packet =
    if nat_lt 176 (length filters) then 27
    else if is_some (first_fault packet) then code_of (first_fault packet)
    else if is_none (bearer_by (first_of (candidate_ranks (rows_said filters) (packet_of packet)))
    (not (default == 0))) then 26
    else 0
