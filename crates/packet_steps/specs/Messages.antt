-- The messages that packets call for.
use Rattle.std.specs.Prelude.{ℕ, ◌%◌, ◌^◌, List, [], ◌∷◌, Some}
use Rattle.pc_base.specs.declared.packet.Peer.{Peer}
use Rattle.gtpu_codec.specs.declared.message.GtpU.TheVariants.{Gpdu, EndMarker}
use Rattle.gtpu_codec.specs.Text as user_plane
use Rattle.gtpv2_ie.specs.declared.value.IeValue.TheVariants.{Ebi}
use Rattle.gtpv2_msg.specs.Spelling as control_plane

-- the octets of a packet in the tunnel to an eNodeB (TS 29.281, 7.3.7 of the G-PDU)
unfoldable pub gpdu : Peer → List ℕ → List ℕ
gpdu peer octets = user_plane.spelling (Gpdu peer.teid octets)

-- the End Marker to the eNodeB that a bearer leaves (TS 29.281, 7.3.2)
unfoldable pub end_marker : Peer → List ℕ
end_marker peer = user_plane.spelling (EndMarker peer.teid)

-- The Downlink Data Notification (TS 29.274, 7.2.11): to the MME's TEID, for the bearer of an EBI. Its sequence
-- number is the packet's number, in 23 bits.
unfoldable pub notification : Peer → ℕ → ℕ → List ℕ
notification mme number ebi = control_plane.spelling (record {
  kind = 176;
  teid = Some mme.teid;
  seq = number % 2 ^ 23;
  ies = record { instance = 0; value = Ebi ebi } ∷ [];
})
