-- Which octets are an IPv4 packet, and which begin with one (RFC 791, 3.1).
use Rattle.std.specs.Prelude.{◌≡◌, ℕ, ◌≤◌, List, ◌++◌, length, take}
use Rattle.ipv4_packet.specs.Fields.{version_of, header_words, header_len, total_length}

-- one packet, whole: of version 4, with a header of five words or more,
-- which is inside the total length, and of just that length
pub record IsPacket (octets : List ℕ) : Type 0 where
  pub version : version_of octets ≡ 4
  pub words : 5 ≤ header_words octets
  pub header : header_len octets ≤ total_length octets
  pub total : total_length octets ≡ length octets

-- octets are this packet, and a rest that is no part of it
pub record Spells (octets packet : List ℕ) : Type 0 where
  pub whole : IsPacket packet
  pub rest : List ℕ
  pub parts : octets ≡ packet ++ rest

-- the packet at the start of octets, where they spell one
abbrev pub packet_of : List ℕ → List ℕ
packet_of octets = take (total_length octets) octets
