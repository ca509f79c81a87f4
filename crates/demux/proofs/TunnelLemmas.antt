-- What octets ask that spell a message of GTP-U, and those with a fault.
use Rattle.std.proofs.Common.{◌≡◌, ℕ, ◌⊎◌, inl, inr, Option, Some, None, List, codes, ap, ◌∙◌}
use Rattle.std.specs.Prelude.{option_and_then, option_map}
use Rattle.gtpu_codec.specs.declared.fault.UBad.{UBad}
use Rattle.gtpu_codec.specs.declared.head.GtpUHead.{GtpUHead}
use Rattle.gtpu_codec.specs.declared.kind.GtpUKind.{GtpUKind}
use Rattle.gtpu_codec.specs.declared.kind.GtpUKind.TheVariants as kind
use Rattle.gtpu_codec.specs.Message.{message_of}
use Rattle.gtpu_codec.specs.Refusal.{first_fault}
use Rattle.ipv4_packet.specs.declared.fault.IpBad.{IpBad}
use Rattle.ipv4_packet.specs.Refusal.{first_fault as ip_fault}
use Rattle.pc_base.specs.declared.packet.Way.TheVariants.{Up, Down}
use Rattle.ipv4_packet.specs.Fields.{destination_of}
use Rattle.demux.specs.declared.packet.LentPacket.{LentPacket}
use Rattle.demux.specs.declared.decision.Decision.TheVariants.{Packet}
use Rattle.demux.specs.Ends.{bearer_end, addressee}
use Rattle.demux.specs.Texts.{tunnel_note, packet_note}
use Rattle.demux.specs.Asked.{note, slot, packet}
use Rattle.demux.specs.Resolved.{addressee_in, bearer_in, found_in, resolved, wished_by}
use Rattle.demux.specs.Tunnel.{
  lent,
  kind_asked,
  tunnel_where,
  tunnel_asked,
  unknown_note,
  carried_where,
  carried,
  tunnelled_to,
  tunnelled,
  delivered_to,
  delivered,
  packet_where,
  packet_asked,
}

pub tunnel_read : (moment : ℕ) (octets : List ℕ) (head : GtpUHead) (body : List ℕ) (is : GtpUKind)
    → message_of octets ≡ Some (head, body) → head.kind ≡ is
    → tunnel_asked moment octets ≡ kind_asked moment is head body
unfolding tunnel_asked
tunnel_read moment octets head body is spelled same =
    ap (tunnel_where moment (first_fault octets)) spelled ∙ ap (λ k. kind_asked moment k head body) same

pub tunnel_refused : (moment : ℕ) (octets : List ℕ) (bad : UBad) → first_fault octets ≡ Some bad
    → message_of octets ≡ None
    → tunnel_asked moment octets ≡ note (tunnel_note bad)
unfolding tunnel_asked
tunnel_refused moment octets bad is none = λ i. tunnel_where moment (is i) (none i)

pub packet_read : (moment : ℕ) (octets : List ℕ) → ip_fault octets ≡ None
    → packet_asked moment octets ≡ delivered (lent moment Down octets)
unfolding packet_asked
packet_read moment octets none = ap (packet_where moment octets) none

pub packet_refused : (moment : ℕ) (octets : List ℕ) (bad : IpBad) → ip_fault octets ≡ Some bad
    → packet_asked moment octets ≡ note (packet_note bad)
unfolding packet_asked
packet_refused moment octets bad is = ap (packet_where moment octets) is

pub tunnel_noted : (moment : ℕ) (octets : List ℕ) (head : GtpUHead) (body : List ℕ)
    → message_of octets ≡ Some (head, body)
    → (head.kind ≡ kind.EchoResponse) ⊎ (head.kind ≡ kind.ErrorIndication) ⊎ (head.kind ≡ kind.EndMarker)
    → tunnel_asked moment octets ≡ note (codes "s1u noted")
tunnel_noted moment octets head body spelled (inl is) = tunnel_read moment octets head body kind.EchoResponse spelled is
tunnel_noted moment octets head body spelled (inr (inl is)) =
    tunnel_read moment octets head body kind.ErrorIndication spelled is
tunnel_noted moment octets head body spelled (inr (inr is)) =
    tunnel_read moment octets head body kind.EndMarker spelled is

-- ---- packets of subscribers in the book

carried_as : (moment index : ℕ) (payload : List ℕ) → ip_fault payload ≡ None
    → carried moment index payload ≡ packet (lent moment (Up index) payload)
carried_as moment index payload none = ap (carried_where moment index payload) none

-- the end of a slot's bearer
abbrev at_index : ℕ → ℕ → ℕ × ℕ
at_index index number = (number, index)

same_end : (a b : ℕ × ℕ) → Some a ≡ Some b → a ≡ b
same_end a b is = cc

pub tunnelled_found : (slices : ℕ) (book : List (List ℕ)) (moment teid : ℕ) (payload : List ℕ) (end : ℕ × ℕ)
    → bearer_in book teid ≡ Some end → ip_fault payload ≡ None
    → resolved slices book (tunnelled moment teid payload) ≡ Packet end.0 (lent moment (Up end.1) payload)
unfolding tunnelled resolved
tunnelled_found slices book moment teid payload end found none =
    by_teid (bearer_end teid) found
  where
    by_slot : (slot_found : Option ℕ) (index : ℕ)
        → option_map (at_index index) slot_found ≡ Some end
        → wished_by slices slot_found (carried moment index payload) (unknown_note teid)
        ≡ Packet end.0 (lent moment (Up end.1) payload)
    by_slot (Some number) index is =
        ap (λ wish. wished_by slices (Some number) wish (unknown_note teid)) (carried_as moment index payload none)
        ∙ ap (λ (e : ℕ × ℕ). Packet e.0 (lent moment (Up e.1) payload)) (same_end (at_index index number) end is)
    by_slot None index is = cc

    by_teid : (given : Option (ℕ × ℕ))
        → option_and_then (λ (e : ℕ × ℕ). option_map (at_index e.1) (found_in book (slot e.0))) given ≡ Some end
        → resolved slices book (tunnelled_to given moment teid payload)
        ≡ Packet end.0 (lent moment (Up end.1) payload)
    by_teid (Some (number, index)) is = by_slot (found_in book (slot number)) index is
    by_teid None is = cc

pub delivered_found : (slices : ℕ) (book : List (List ℕ)) (given : LentPacket) (at : ℕ)
    → addressee_in book (destination_of given.ip) ≡ Some at
    → resolved slices book (delivered given) ≡ Packet at given
unfolding resolved
delivered_found slices book given at found = by_end (addressee (destination_of given.ip)) found
  where
    by_end : (end : Option ℕ) → option_and_then (λ number. found_in book (slot number)) end ≡ Some at
        → resolved slices book (delivered_to end given) ≡ Packet at given
    by_end (Some number) is =
        ap (λ slot_found. wished_by slices slot_found (packet given) (codes "sgi unknown")) is
    by_end None is = cc
