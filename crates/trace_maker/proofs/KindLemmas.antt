-- What generated lines say is in the ranges of a line.
use Rattle.std.proofs.Common.{ℕ, ◌-◌, ◌/◌, ◌%◌, ◌^◌, ◌<◌, List, [], ◌∷◌, ◌++◌, All, arith, replicate}
use Rattle.std.specs.Char.{IsAsciiDigit}
use Rattle.std.proofs.lemmas.List.Elements.{All-cons, All-nil, All-replicate}
use Rattle.pc_base.specs.Addresses.{addr_of}
use Rattle.pc_base.specs.Imsi.{IsImsi}
use Rattle.pc_base.specs.Teids.{teid_of}
use Rattle.pc_base.specs.declared.packet.TeidUse.TheVariants.{Bearer}
use Rattle.wire_octets.specs.Numbers.{be16_octets, be32_octets}
use Rattle.trace_lines.specs.Line.{IsKind, IsLine, IsOctets}
use Rattle.trace_maker.specs.Packets.{server, packet, uplink}
use Rattle.trace_maker.specs.Plan.{line_of}
use Rattle.trace_maker.specs.Said.{IsSaid, digit, imsi_of, kind_of}
use Rattle.trace_maker.specs.declared.maker.LinePlan.{LinePlan}
use Rattle.trace_maker.specs.declared.said.Said.{Said}
use Rattle.trace_maker.specs.declared.said.Said.TheVariants.{Attach, Up, Down, Rates, Move}

is_digit : (number power : ℕ) → IsAsciiDigit (digit number power)
is_digit number power = (omega arith, omega arith)

-- a text of digits
record AreDigits (text : List ℕ) : Type 0 where
  all : All IsAsciiDigit text

none : AreDigits []
none = record { all = All-nil IsAsciiDigit }

digit_first : (octet : ℕ) (rest : List ℕ) → IsAsciiDigit octet → AreDigits rest → AreDigits (octet ∷ rest)
digit_first octet rest is_one digits = record { all = All-cons IsAsciiDigit octet rest is_one digits.all }

code : {rest : List ℕ} (octet : ℕ) → IsAsciiDigit octet → AreDigits rest → AreDigits (octet ∷ rest)
code {rest} octet is_one digits = digit_first octet rest is_one digits

place : {rest : List ℕ} (number power : ℕ) → AreDigits rest → AreDigits (digit number power ∷ rest)
place {rest} number power digits = digit_first (digit number power) rest (is_digit number power) digits

are_digits : (slot : ℕ) → AreDigits (imsi_of slot)
are_digits slot =
    code 48 (omega arith, omega arith) (code 48 (omega arith, omega arith) (code 49 (omega arith, omega arith)
    (code 48 (omega arith, omega arith) (code 49 (omega arith, omega arith)
    (place slot 1_000_000_000 (place slot 100_000_000 (place slot 10_000_000 (place slot 1_000_000 (place slot 100_000
    (place slot 10_000 (place slot 1_000 (place slot 100 (place slot 10 (place slot 1 none))))))))))))))

pub is_imsi : (slot : ℕ) → IsImsi (imsi_of slot)
is_imsi slot = (omega arith, omega arith, (are_digits slot).all)

-- octets
abbrev IsOctet : ℕ → Type 0
IsOctet octet = octet < 256

record AreOctets (octets : List ℕ) : Type 0 where
  all : All IsOctet octets

first : {rest : List ℕ} (octet : ℕ) → octet < 256 → AreOctets rest → AreOctets (octet ∷ rest)
first {rest} octet fits octets = record { all = All-cons IsOctet octet rest fits octets.all }

two : {rest : List ℕ} (n : ℕ) → AreOctets rest → AreOctets (be16_octets n ++ rest)
two n octets = first (n / 256 % 256) (omega arith) (first (n % 256) (omega arith) octets)

four : {rest : List ℕ} (n : ℕ) → AreOctets rest → AreOctets (be32_octets n ++ rest)
four n octets = first (n / 16777216 % 256) (omega arith) (first (n / 65536 % 256) (omega arith) (two n octets))

zeros : (count : ℕ) → AreOctets (replicate count 0)
zeros count = record { all = All-replicate IsOctet count 0 (omega arith) }

are_octets : (len source destination : ℕ) → AreOctets (packet len source destination)
are_octets len source destination =
    first 0x45 (omega arith) (first 0 (omega arith) (two len
    (first 0 (omega arith) (first 0 (omega arith) (first 0 (omega arith) (first 0 (omega arith)
    (first 0x40 (omega arith) (first 0xfd (omega arith) (first 0 (omega arith) (first 0 (omega arith)
    (four source (four destination (zeros (len - 20))))))))))))))

packet_octets : (len source destination : ℕ) → IsOctets (packet len source destination)
packet_octets len source destination = (omega arith, (are_octets len source destination).all)

tunnelled : (slot len : ℕ) → AreOctets (uplink slot len)
tunnelled slot len =
    first 0x30 (omega arith) (first 0xff (omega arith) (two len
    (four (teid_of slot (Bearer 0)) (are_octets len (addr_of slot) server))))

uplink_octets : (slot len : ℕ) → IsOctets (uplink slot len)
uplink_octets slot len = (omega arith, (tunnelled slot len).all)

pub is_kind : (said : Said) → IsSaid said → IsKind (kind_of said)
is_kind (Attach slot) in_range = (is_imsi slot, omega arith, omega arith, omega arith, omega arith)
is_kind (Up slot len) in_range = uplink_octets slot len
is_kind (Down slot len) in_range = packet_octets len server (addr_of slot)
is_kind (Rates slot rate) in_range = (is_imsi slot, omega (arith, in_range.1), omega (arith, in_range.1))
is_kind (Move slot slice) in_range = (is_imsi slot, omega (arith, in_range.1))

pub is_line : (plan : LinePlan) → plan.moment < 2 ^ 50 → IsSaid plan.said → IsLine (line_of plan)
is_line plan early in_range = record { moment = early; kind = is_kind plan.said in_range }
