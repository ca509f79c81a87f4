-- What a generated line says, by the few numbers that make it.
use Rattle.std.specs.Prelude.{ℕ, ◌+◌, ◌/◌, ◌%◌, ◌<◌, ◌≤◌, List, [], ◌∷◌, ◌++◌, codes}
use Rattle.pc_base.specs.Slots.{IsSlot}
use Rattle.trace_lines.specs.Kind.{LineKind}
use Rattle.trace_lines.specs.Kind as kind
use Rattle.trace_maker.specs.Packets.{uplink, downlink}
use Rattle.trace_maker.specs.declared.said.Said.{Said}
use Rattle.trace_maker.specs.declared.said.Said.TheVariants.{Attach, Up, Down, Rates, Move}

-- the decimal digit of a number at the place of this power of ten
abbrev pub digit : ℕ → ℕ → ℕ
digit number power = 48 + number / power % 10

-- the slot in ten decimal digits behind the country and network codes of test networks (TS 23.003, 2.2)
abbrev pub imsi_of : ℕ → List ℕ
imsi_of slot =
    codes "00101"
    ++ digit slot 1_000_000_000 ∷ digit slot 100_000_000 ∷ digit slot 10_000_000 ∷ digit slot 1_000_000
    ∷ digit slot 100_000 ∷ digit slot 10_000 ∷ digit slot 1_000 ∷ digit slot 100 ∷ digit slot 10 ∷ digit slot 1 ∷ []

-- Every subscriber is behind the eNodeB at 198.51.100.1, under a TEID of its own.
abbrev pub kind_of : Said → LineKind
kind_of (Attach slot) = kind.Attach (imsi_of slot) (record { teid = slot + 1; addr = 0xc633_6401 }) 100_000 100_000
kind_of (Up slot len) = kind.S1u (uplink slot len)
kind_of (Down slot len) = kind.Sgi (downlink slot len)
kind_of (Rates slot rate) = kind.Ambr (imsi_of slot) rate rate
kind_of (Move slot slice) = kind.Move (imsi_of slot) slice

-- the ranges of these numbers
abbrev pub IsLength : ℕ → Type 0
IsLength len = (20 ≤ len) × (len ≤ 200)

abbrev pub IsSaid : Said → Type 0
IsSaid (Attach slot) = IsSlot slot
IsSaid (Up slot len) = IsSlot slot × IsLength len
IsSaid (Down slot len) = IsSlot slot × IsLength len
IsSaid (Rates slot rate) = IsSlot slot × (rate ≤ 100_000)
IsSaid (Move slot slice) = IsSlot slot × (slice < 2)
