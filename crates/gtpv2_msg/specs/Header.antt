-- The header (TS 29.274, 5.1) by its octets, which count from 0 here: version (3), P, T and spare;
-- type; length without the first four octets (2); with T the TEID (4); sequence number (3); spare.
use Rattle.std.specs.Prelude.{
  ◌≡◌,
  ℕ,
  ◌+◌,
  ◌/◌,
  ◌%◌,
  ◌≤◌,
  Bool,
  true,
  false,
  List,
  length,
  slice_index,
  slice_range,
  Option,
  Some,
  None,
  if◌then◌else◌,
  ◌==◌,
}
use Rattle.wire_octets.specs.Numbers.{be16_at, be24_at, be32_at}
use Rattle.gtpv2_msg.specs.Kinds.{is_kind}

abbrev pub version_of : List ℕ → ℕ
version_of octets = slice_index octets 0 / 32

-- P: another message is piggybacked
abbrev pub has_piggyback : List ℕ → Bool
has_piggyback octets = slice_index octets 0 / 16 % 2 == 1

-- T: a TEID stands in the header
abbrev pub has_teid : List ℕ → Bool
has_teid octets = slice_index octets 0 / 8 % 2 == 1

abbrev pub kind_of : List ℕ → ℕ
kind_of octets = slice_index octets 1

-- the place behind the message
abbrev pub end_of : List ℕ → ℕ
end_of octets = 4 + be16_at octets 2

-- the octets of the whole header, with a TEID and without
abbrev pub header_len : Bool → ℕ
header_len teid = if teid then 12 else 8

abbrev pub teid_of : List ℕ → Option ℕ
teid_of octets = if has_teid octets then Some (be32_at octets 4) else None

abbrev pub seq_of : List ℕ → ℕ
seq_of octets = be24_at octets (if has_teid octets then 8 else 4)

-- a right header: all of it is there, and the message behind it
pub record IsRight (octets : List ℕ) : Type 0 where
  pub least : 8 ≤ length octets
  pub version : version_of octets ≡ 2
  pub alone : has_piggyback octets ≡ false
  pub whole : header_len (has_teid octets) ≤ end_of octets
  pub inside : end_of octets ≤ length octets
  pub kind : is_kind (kind_of octets) ≡ true

-- the octets of the information elements
abbrev pub body_of : List ℕ → List ℕ
body_of octets = slice_range octets (header_len (has_teid octets)) (end_of octets)
