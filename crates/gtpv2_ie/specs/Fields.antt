-- The values that octets spell, each at its least length or longer; octets past it are ignored, and
-- so are spare bits. Places count from 0, where the standard's octets count from 5.
use Rattle.std.specs.Prelude.{
  ℕ,
  ◌+◌,
  ◌*◌,
  ◌/◌,
  ◌%◌,
  ◌&&◌,
  ◌||◌,
  List,
  length,
  slice_index,
  Option,
  Some,
  None,
  if◌then◌else◌,
  ◌==◌,
  nat_lt,
  nat_le,
}
use Rattle.gtpv2_ie.specs.declared.cause.CauseIe.{CauseIe}
use Rattle.gtpv2_ie.specs.declared.fteid.Fteid.{Fteid}
use Rattle.gtpv2_ie.specs.declared.qos.QosIe.{QosIe}
use Rattle.wire_octets.specs.Numbers.{be16_at, be32_at, be40_at}

-- EBI (8.8): the low four bits, 0 or 5 to 15
abbrev pub ebi_of : List ℕ → Option ℕ
ebi_of octets =
    let ebi = slice_index octets 0 % 16 in
    if ebi == 0 || nat_le 5 ebi then Some ebi else None

-- PDN Type (8.34): the low three bits, 1 to 3
abbrev pub pdn_of : List ℕ → Option ℕ
pdn_of octets =
    let pdn = slice_index octets 0 % 8 in
    if nat_le 1 pdn && nat_le pdn 3 then Some pdn else None

-- PAA (8.14): the low three bits 1, for IPv4, and the address
abbrev pub paa_of : List ℕ → Option ℕ
paa_of octets = if slice_index octets 0 % 8 == 1 then Some (be32_at octets 1) else None

-- octets that are not looked into, at most so many
abbrev pub octets_of : ℕ → List ℕ → Option (List ℕ)
octets_of most octets = if nat_le (length octets) most then Some octets else None

-- Cause (8.4): with six octets the offending element's type, two zero octets and its instance; with
-- any other length the cause alone. The flags are ignored.
abbrev pub cause_of : List ℕ → Option CauseIe
cause_of octets =
    let cause = slice_index octets 0 in
    if length octets == 6 then
    (if be16_at octets 3 == 0 then
    Some (record { cause = cause; offending = Some (slice_index octets 2, slice_index octets 5 % 16) })
    else None)
    else Some (record { cause = cause; offending = None })

-- F-TEID (8.22): the flag V4 is set
abbrev pub fteid_of : List ℕ → Option Fteid
fteid_of octets =
    let first = slice_index octets 0 in
    if nat_lt first 128 then None
    else Some (record { interface = first % 64; teid = be32_at octets 1; addr = be32_at octets 5 })

-- the bits of an ARP octet that mean something: PCI bit 7, PL bits 6 to 3, PVI bit 1
abbrev pub arp_bits : ℕ → ℕ
arp_bits octet = 4 * (octet / 4 % 32) + octet % 2

-- Bearer QoS (8.15)
abbrev pub qos_of : List ℕ → QosIe
qos_of octets = record {
  arp = arp_bits (slice_index octets 0);
  qci = slice_index octets 1;
  mbr_up = be40_at octets 2;
  mbr_down = be40_at octets 7;
  gbr_up = be40_at octets 12;
  gbr_down = be40_at octets 17;
}
