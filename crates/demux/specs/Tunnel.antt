-- What octets of an eNodeB (S1-U, TS 29.281) and of the internet (SGi, RFC 791) ask.
use Rattle.std.specs.Prelude.{ℕ, Option, Some, None, unwrap_or, List, codes}
use Rattle.gtpu_codec.specs.declared.fault.UBad.{UBad}
use Rattle.gtpu_codec.specs.declared.head.GtpUHead.{GtpUHead}
use Rattle.gtpu_codec.specs.declared.kind.GtpUKind.{GtpUKind}
use Rattle.gtpu_codec.specs.declared.kind.GtpUKind.TheVariants as kind
use Rattle.gtpu_codec.specs.declared.message.GtpU.TheVariants.{EchoResponse, ErrorIndication}
use Rattle.gtpu_codec.specs.Message.{message_of}
use Rattle.gtpu_codec.specs.Refusal.{first_fault}
use Rattle.gtpu_codec.specs.Text.{spelling}
use Rattle.ipv4_packet.specs.declared.fault.IpBad.{IpBad}
use Rattle.ipv4_packet.specs.Fields.{destination_of}
use Rattle.ipv4_packet.specs.Packet.{packet_of}
use Rattle.ipv4_packet.specs.Refusal.{first_fault as ip_fault}
use Rattle.pc_base.specs.declared.packet.Way.{Way}
use Rattle.pc_base.specs.declared.packet.Way.TheVariants.{Up, Down}
use Rattle.pc_base.specs.Addresses.{gateway_addr}
use Rattle.demux.specs.declared.packet.LentPacket.{LentPacket}
use Rattle.demux.specs.Ends.{bearer_end, addressee}
use Rattle.demux.specs.Texts.{octets_note, tunnel_note, carried_note, packet_note}
use Rattle.demux.specs.Asked.{Asked, Wish, note, of, slot, packet, noted}

-- a packet that came so, at a moment: it ends where its total length says
abbrev pub lent : ℕ → Way → List ℕ → LentPacket
lent moment way octets = record { moment = moment; way = way; ip = packet_of octets }

-- an echo is answered (7.2.2), to sequence number 0 where the request has none
abbrev pub tunnel_echo_note : Option ℕ → List ℕ
tunnel_echo_note seq = octets_note (codes "s1u echo") (spelling (EchoResponse (unwrap_or seq 0)))

-- a tunnel that isn't there is told to the sender (7.3.1)
abbrev pub unknown_note : ℕ → List ℕ
unknown_note teid = octets_note (codes "s1u unknown") (spelling (ErrorIndication 0 teid gateway_addr))

-- what came on a bearer is a packet, if it is one of IPv4
abbrev pub carried_where : ℕ → ℕ → List ℕ → Option IpBad → Wish
carried_where moment index payload (Some bad) = noted (carried_note bad)
carried_where moment index payload None = packet (lent moment (Up index) payload)

abbrev pub carried : ℕ → ℕ → List ℕ → Wish
carried moment index payload = carried_where moment index payload (ip_fault payload)

-- a G-PDU is for the slot of its TEID, where that is a bearer's
abbrev pub tunnelled_to : Option (ℕ × ℕ) → ℕ → ℕ → List ℕ → Asked
tunnelled_to (Some (number, index)) moment teid payload =
    of (slot number) (carried moment index payload) (unknown_note teid)
tunnelled_to None moment teid payload = note (unknown_note teid)

unfoldable pub tunnelled : ℕ → ℕ → List ℕ → Asked
tunnelled moment teid payload = tunnelled_to (bearer_end teid) moment teid payload

-- the three types that are neither an echo to answer nor a packet are noted
abbrev pub kind_asked : ℕ → GtpUKind → GtpUHead → List ℕ → Asked
kind_asked moment kind.EchoRequest head body = note (tunnel_echo_note head.seq)
kind_asked moment kind.EchoResponse head body = note (codes "s1u noted")
kind_asked moment kind.ErrorIndication head body = note (codes "s1u noted")
kind_asked moment kind.EndMarker head body = note (codes "s1u noted")
kind_asked moment kind.Gpdu head body = tunnelled moment head.teid body

-- octets without a fault are a message
abbrev pub tunnel_where : ℕ → Option UBad → Option (GtpUHead × List ℕ) → Asked
tunnel_where moment fault (Some (head, body)) = kind_asked moment head.kind head body
tunnel_where moment (Some bad) None = note (tunnel_note bad)
tunnel_where moment None None = note (codes "s1u kind")

-- octets of an eNodeB
unfoldable pub tunnel_asked : ℕ → List ℕ → Asked
tunnel_asked moment octets = tunnel_where moment (first_fault octets) (message_of octets)

-- a packet of the internet is for the slot of its destination
abbrev pub delivered_to : Option ℕ → LentPacket → Asked
delivered_to (Some number) given = of (slot number) (packet given) (codes "sgi unknown")
delivered_to None given = note (codes "sgi unknown")

abbrev pub delivered : LentPacket → Asked
delivered given = delivered_to (addressee (destination_of given.ip)) given

abbrev pub packet_where : ℕ → List ℕ → Option IpBad → Asked
packet_where moment octets (Some bad) = note (packet_note bad)
packet_where moment octets None = delivered (lent moment Down octets)

-- octets of the internet
unfoldable pub packet_asked : ℕ → List ℕ → Asked
packet_asked moment octets = packet_where moment octets (ip_fault octets)
