-- What a packet carries: the ports and the security parameters index behind the header.
use Rattle.std.specs.Prelude.{ℕ, Bool, ◌==◌, ◌&&◌, ◌||◌, nat_le, List, length, drop, Option, Some, None, if◌then◌else◌}
use Rattle.wire_octets.specs.Numbers.{be16_at, be32_at}
use Rattle.ipv4_packet.specs.Fields.{header_len, fragment_offset_of, protocol_of}

-- the octets behind the header
abbrev pub payload_of : List ℕ → List ℕ
payload_of packet = drop (header_len packet) packet

-- the packet is of this protocol, and begins with at least so many octets of its header
abbrev pub begins : ℕ → ℕ → List ℕ → Bool
begins protocol least packet =
    protocol_of packet == protocol && (fragment_offset_of packet == 0) && nat_le least (length (payload_of packet))

-- The source and the destination port of TCP (protocol 6; RFC 9293, 3.1), UDP (17; RFC 768) and SCTP (132;
-- RFC 9260, 3.1).
abbrev pub ports_of : List ℕ → Option (ℕ × ℕ)
ports_of packet =
    if begins 6 4 packet || begins 17 4 packet || begins 132 4 packet
    then Some (be16_at (payload_of packet) 0, be16_at (payload_of packet) 2)
    else None

-- The security parameters index, at the start of ESP (protocol 50; RFC 4303, 2) and behind four octets in AH (51;
-- RFC 4302, 2).
abbrev pub spi_of : List ℕ → Option ℕ
spi_of packet =
    if begins 50 4 packet then Some (be32_at (payload_of packet) 0)
    else if begins 51 8 packet then Some (be32_at (payload_of packet) 4)
    else None
