-- What a line of a trace says, as a value, and the ranges that it keeps.
use Rattle.std.specs.Prelude.{ℕ, ◌<◌, ◌≤◌, ◌^◌, List, length, All}
use Rattle.pc_base.specs.Imsi.{IsImsi}
use Rattle.trace_lines.specs.Kind.{LineKind}
use Rattle.trace_lines.specs.Kind as kind

-- its number in the trace, its moment in microseconds, and the rest by kind
pub record Line : Type 0 where
  pub number : ℕ
  pub moment : ℕ
  pub kind : LineKind

-- some octets
abbrev pub IsOctets : List ℕ → Type 0
IsOctets octets = (0 < length octets) × All (λ octet. octet < 256) octets

-- rates in kbps: those of a session have 32 bits (TS 29.274, 8.7), those of a bearer 40 (8.15)
abbrev pub IsSessionRate : ℕ → Type 0
IsSessionRate rate = rate < 2 ^ 32

abbrev pub IsBearerRate : ℕ → Type 0
IsBearerRate rate = rate < 2 ^ 40

-- the identity of a bearer (TS 24.007, 11.2.3.1.5)
abbrev pub IsEbi : ℕ → Type 0
IsEbi ebi = (5 ≤ ebi) × (ebi ≤ 15)

abbrev pub IsKind : LineKind → Type 0
IsKind (kind.S11 octets) = IsOctets octets
IsKind (kind.S1u octets) = IsOctets octets
IsKind (kind.Sgi octets) = IsOctets octets
IsKind (kind.Attach imsi enb up down) =
    IsImsi imsi × (enb.addr < 2 ^ 32) × (enb.teid < 2 ^ 32) × IsSessionRate up × IsSessionRate down
IsKind (kind.Bearer imsi qci mbr_up mbr_down gbr_up gbr_down tft) =
    IsImsi imsi × ((1 ≤ qci) × (qci ≤ 255)) × IsBearerRate mbr_up × IsBearerRate mbr_down × IsBearerRate gbr_up
    × IsBearerRate gbr_down
    × IsOctets tft
IsKind (kind.Filters imsi ebi tft) = IsImsi imsi × IsEbi ebi × IsOctets tft
IsKind (kind.Drop imsi ebi) = IsImsi imsi × IsEbi ebi
IsKind (kind.Ambr imsi up down) = IsImsi imsi × IsSessionRate up × IsSessionRate down
IsKind (kind.Move imsi slice) = IsImsi imsi × (slice ≤ 63)
IsKind kind.Fence = Unit {0}

-- a line of a trace
pub record IsLine (line : Line) : Type 0 where
  pub moment : line.moment < 2 ^ 50
  pub kind : IsKind line.kind
