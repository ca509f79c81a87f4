-- The exact ledger: the pieces of a life, one behind another, are its forwarded packets.
use Rattle.std.specs.Prelude.{
  ◌≡◌,
  ℕ,
  ◌+◌,
  ◌==◌,
  Bool,
  Option,
  Some,
  None,
  List,
  [],
  ◌∷◌,
  ◌++◌,
  filter,
  sum_by,
  if◌then◌else◌,
}
use Rattle.std.specs.List.{filter_map, flat_map}
use Rattle.charging_book.specs.Rows.{Counters, Charged}
use Rattle.charging_book.specs.Pieces.{
  Forwarded,
  Finished,
  up_octets,
  down_octets,
  up_packets,
  down_packets,
  open_of,
  row_of,
}
use Rattle.charging_book.specs.Happenings.{Happening, started, forwarded, closed, opens_of, rows_of, IsLawful}

-- the packets that were forwarded for a life, in their order
abbrev pub packet_by : ℕ → Happening → Option Forwarded
packet_by life (started other ebi qci) = None
packet_by life (forwarded other p) = if other == life then Some p else None
packet_by life (closed other why) = None

abbrev pub packets_of : ℕ → List Happening → List Forwarded
packets_of life happened = filter_map (packet_by life) happened

-- a life's rows · its open counters
abbrev pub rows_for : ℕ → List Charged → List Charged
rows_for life rows = filter (λ row. row.life == life) rows

abbrev pub opens_for : ℕ → List Counters → List Counters
opens_for life opens = filter (λ counters. counters.life == life) opens

-- each row tells its finished piece: octets, packets, moments and reason
abbrev pub TellPieces : List Charged → List Finished → Type 0
TellPieces [] [] = Unit {0}
TellPieces (row ∷ rows) (done ∷ others) = (row ≡ row_of row.life row.ebi row.qci row.seq done) × TellPieces rows others
TellPieces [] (done ∷ others) = ⊥
TellPieces (row ∷ rows) [] = ⊥

-- the open counters of a life tell its last piece, and of a life that isn't open nothing is left
abbrev pub TellLast : List Counters → List Forwarded → Type 0
TellLast [] last = last ≡ []
TellLast (counters ∷ []) last = counters ≡ open_of counters.life counters.ebi counters.qci counters.seq last
TellLast (counters ∷ other ∷ others) last = ⊥

-- the pieces that a life's rows and open counters tell, one behind another, are just its forwarded packets
-- in their order
pub record IsPartition (life : ℕ) (happened : List Happening) : Type 0 where
  pub pieces : List Finished
  pub last : List Forwarded
  pub packets : flat_map (λ done. done.piece) pieces ++ last ≡ packets_of life happened
  pub rows : TellPieces (rows_for life (rows_of happened)) pieces
  pub counters : TellLast (opens_for life (opens_of happened)) last

abbrev pub LedgersArePartitions : Type 0
LedgersArePartitions = (happened : List Happening) (life : ℕ) → IsLawful happened → IsPartition life happened

-- the octets of packets one way · how many go one way
abbrev pub octets_in : Bool → List Forwarded → ℕ
octets_in up piece = if up then up_octets piece else down_octets piece

abbrev pub packets_in : Bool → List Forwarded → ℕ
packets_in up piece = if up then up_packets piece else down_packets piece

-- a life's octets one way over rows · over open counters
abbrev pub charged_octets : Bool → ℕ → List Charged → ℕ
charged_octets up life rows = sum_by (λ row. if up then row.up_octets else row.down_octets) (rows_for life rows)

abbrev pub open_octets : Bool → ℕ → List Counters → ℕ
open_octets up life opens =
    sum_by (λ counters. if up then counters.up_octets else counters.down_octets) (opens_for life opens)

-- its packets one way over rows · over open counters
abbrev pub charged_packets : Bool → ℕ → List Charged → ℕ
charged_packets up life rows = sum_by (λ row. if up then row.up_packets else row.down_packets) (rows_for life rows)

abbrev pub open_packets : Bool → ℕ → List Counters → ℕ
open_packets up life opens =
    sum_by (λ counters. if up then counters.up_packets else counters.down_packets) (opens_for life opens)

abbrev pub EachOctetOnce : Type 0
EachOctetOnce = (happened : List Happening) (up : Bool) (life : ℕ) → IsLawful happened
    → charged_octets up life (rows_of happened) + open_octets up life (opens_of happened)
    ≡ octets_in up (packets_of life happened)

abbrev pub EachPacketOnce : Type 0
EachPacketOnce = (happened : List Happening) (up : Bool) (life : ℕ) → IsLawful happened
    → charged_packets up life (rows_of happened) + open_packets up life (opens_of happened)
    ≡ packets_in up (packets_of life happened)
