-- The fields of an IPv4 header, as functions of the octets (RFC 791, 3.1).
use Rattle.std.specs.Prelude.{ℕ, ◌*◌, ◌/◌, ◌%◌, ◌^◌, List, slice_index}
use Rattle.wire_octets.specs.Numbers.{be16_at, be32_at}

-- the high half of octet 0
abbrev pub version_of : List ℕ → ℕ
version_of octets = slice_index octets 0 / 16

-- the low half of octet 0, the IHL: the header's length in words of four octets
abbrev pub header_words : List ℕ → ℕ
header_words octets = slice_index octets 0 % 16

-- the header's length in octets
abbrev pub header_len : List ℕ → ℕ
header_len octets = 4 * header_words octets

-- octet 1
abbrev pub tos_of : List ℕ → ℕ
tos_of octets = slice_index octets 1

-- octets 2 and 3: the length of header and payload, in octets
abbrev pub total_length : List ℕ → ℕ
total_length octets = be16_at octets 2

-- octets 6 and 7 without the three flags: where the payload stands in its datagram, in units of eight octets
abbrev pub fragment_offset_of : List ℕ → ℕ
fragment_offset_of octets = be16_at octets 6 % 2 ^ 13

-- octet 9
abbrev pub protocol_of : List ℕ → ℕ
protocol_of octets = slice_index octets 9

-- octets 12 to 15
abbrev pub source_of : List ℕ → ℕ
source_of octets = be32_at octets 12

-- octets 16 to 19
abbrev pub destination_of : List ℕ → ℕ
destination_of octets = be32_at octets 16
