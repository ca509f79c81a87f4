-- What a packet says as a line of a trace: a message to the gateway, or a packet to a user.
use Rattle.std.specs.Prelude.{ℕ, ◌-◌, ◌%◌, ◌^◌, ◌==◌, ◌&&◌, Bool, true, false, List, length, drop, take}
use Rattle.std.specs.Prelude.{nat_le, nat_lt, is_none, if◌then◌else◌, Option, None, Some}
use Rattle.wire_octets.specs.Numbers.{be16_at}
use Rattle.ipv4_packet.specs.Fields.{protocol_of, destination_of}
use Rattle.ipv4_packet.specs.Packet.{packet_of}
use Rattle.ipv4_packet.specs.Payload.{payload_of}
use Rattle.ipv4_packet.specs.Refusal.{first_fault}
use Rattle.pc_base.specs.Addresses.{gateway_addr}
use Rattle.trace_lines.specs.Kind.{LineKind}
use Rattle.trace_lines.specs.Kind as kind

-- the ports of GTPv2-C (TS 29.274, 4.1) and GTP-U (TS 29.281, 4.4.2)
abbrev pub control_port : ℕ
control_port = 2123

abbrev pub user_port : ℕ
user_port = 2152

-- a datagram of UDP behind the IPv4 header (RFC 768): source port, destination port, length and checksum, of two
-- octets each, and what it carries. The length counts these eight octets.
abbrev pub udp_len : ℕ
udp_len = 8

abbrev pub port_of : List ℕ → ℕ
port_of packet = be16_at (payload_of packet) 2

abbrev pub length_of : List ℕ → ℕ
length_of packet = be16_at (payload_of packet) 4

abbrev pub message_of : List ℕ → List ℕ
message_of packet = take (length_of packet - udp_len) (drop udp_len (payload_of packet))

-- a whole datagram: of protocol 17, no fragment, with a message, and all of it within the packet
abbrev pub is_datagram : List ℕ → Bool
is_datagram packet = protocol_of packet == 17 && (be16_at packet 6 % 2 ^ 14 == 0) && nat_lt udp_len (length_of packet)
    && nat_le (length_of packet) (length (payload_of packet))

abbrev pub is_for_gateway : List ℕ → Bool
is_for_gateway packet = destination_of packet == gateway_addr && is_datagram packet

-- a user's address is 10.45.0.2 to 10.45.255.254
abbrev pub is_for_user : List ℕ → Bool
is_for_user packet = nat_le 0x0a2d_0002 (destination_of packet) && nat_le (destination_of packet) 0x0a2d_fffe

-- what a message is by its port
abbrev pub message_kind : ℕ → List ℕ → Option LineKind
message_kind port message =
    if port == control_port then Some (kind.S11 message)
    else if port == user_port then Some (kind.S1u message)
    else None

-- what a packet is; one that is none of these is left out of a trace
abbrev pub packet_kind : List ℕ → Option LineKind
packet_kind packet =
    if is_for_gateway packet then message_kind (port_of packet) (message_of packet)
    else if is_for_user packet then Some (kind.Sgi packet)
    else None

-- what octets that begin with a packet are
unfoldable pub ip_kind : List ℕ → Option LineKind
ip_kind octets = if is_none (first_fault octets) then packet_kind (packet_of octets) else None

-- a frame of Ethernet whose type is IPv4: two addresses of six octets, the type of two, and the packet (IEEE 802.3,
-- 3.1.1; RFC 894)
abbrev pub is_ipv4_frame : List ℕ → Bool
is_ipv4_frame octets = nat_le 14 (length octets) && (be16_at octets 12 == 0x0800)

abbrev pub frame_kind : List ℕ → Option LineKind
frame_kind octets = if is_ipv4_frame octets then ip_kind (drop 14 octets) else None

-- what the captured octets of a record are, by the link type
abbrev pub kind_in : Bool → List ℕ → Option LineKind
kind_in true octets = frame_kind octets
kind_in false octets = ip_kind octets
