-- What the packets are that an export writes.
use Rattle.std.proofs.Common.{◌≡◌, ℕ, suc, zero, ◌+◌, ◌-◌, ◌^◌, ◌<◌, ◌≤◌, Bool, true, false, ◌&&◌, ◌||◌, ◌==◌, List, [], ◌∷◌, length, get_or, nat_lt, nat_le, not, is_none, if◌then◌else◌, Option, None, Some, All, refl, sym, ap, ◌∙◌, arith}
use Rattle.std.proofs.lemmas.Bool.Decides.{nat_tests}
use Rattle.std.proofs.lemmas.List.{take_all}
use Rattle.std.proofs.lemmas.List.Elements.{All-head, All-tail}
use Rattle.ipv4_packet.specs.Fields.{total_length, destination_of}
use Rattle.ipv4_packet.specs.Packet.{packet_of}
use Rattle.ipv4_packet.specs.Payload.{payload_of}
use Rattle.ipv4_packet.specs.Refusal.{first_fault}
use Rattle.ipv4_packet.specs.declared.fault.IpBad.TheVariants as bad
use Rattle.trace_lines.specs.Kind as kind
use Rattle.pc_base.specs.Addresses.{gateway_addr}
use Rattle.pcap_form.specs.Packet.{is_datagram, is_for_user, ip_kind, length_of, message_kind, message_of, packet_kind, port_of}
use Rattle.pcap_form.specs.Export.{is_packet, wrapped, wrapped_head}

-- an octet of some, or 0 behind them
octet_below : (octets : List ℕ) → All (λ octet. octet < 256) octets → (at : ℕ) → get_or octets at 0 < 256
octet_below [] small at = omega arith
octet_below (octet ∷ octets) small zero = All-head (λ o. o < 256) octet octets small
octet_below (octet ∷ octets) small (suc at) = octet_below octets (All-tail (λ o. o < 256) octet octets small) at

-- a packet that is read whole
ip_kind-whole : (octets : List ℕ) → first_fault octets ≡ None → total_length octets ≡ length octets
    → ip_kind octets ≡ packet_kind octets
unfolding ip_kind
ip_kind-whole octets faultless total =
    let prefix : packet_of octets ≡ octets = take_all (total_length octets) octets (omega (arith, total)) in
    rw (faultless, prefix) refl

-- both tests hold where one after the other does
both : (one other : Bool) → one && other ≡ true → (one ≡ true) × (other ≡ true)
both true true is = (refl, refl)
both true false is = cc
both false other is = cc

no_fault : {E : Type 0} (fault : Option E) → is_none fault ≡ true → fault ≡ None
no_fault None is = refl
no_fault (Some why) is = cc

-- what is a packet is one of just its total length
packet_total : (octets : List ℕ) → is_packet octets ≡ true → total_length octets ≡ length octets
packet_total octets is =
    let test = both (is_none (first_fault octets)) (total_length octets == length octets) is in grind (arith, nat_tests)

pub packet_fits : (octets : List ℕ) → All (λ octet. octet < 256) octets → is_packet octets && is_for_user octets ≡ true
    → length octets < 2 ^ 16
packet_fits octets small is =
    let total = packet_total octets (both (is_packet octets) (is_for_user octets) is).0 in
    omega (arith, total, octet_below octets small 2, octet_below octets small 3)

-- its address isn't the gateway's
not_gateway : (packet : List ℕ) → is_for_user packet ≡ true → destination_of packet == gateway_addr ≡ false
not_gateway packet is = grind (arith, nat_tests)

-- a packet to a user is no message to the gateway
pub user_packet : (octets : List ℕ) → is_packet octets && is_for_user octets ≡ true
    → ip_kind octets ≡ Some (kind.Sgi octets)
user_packet octets is =
    let tests = both (is_packet octets) (is_for_user octets) is in
    let faultless = no_fault (first_fault octets) (both (is_none (first_fault octets))
    (total_length octets == length octets) tests.0).0 in
    ip_kind-whole octets faultless (packet_total octets tests.0)
    ∙ rw (not_gateway octets tests.1, tests.1) refl

pub length-wrapped : (port : ℕ) (message : List ℕ) → length (wrapped port message) ≡ 28 + length message
unfolding wrapped_head
length-wrapped port message = omega arith

wrapped-total : (port : ℕ) (message : List ℕ) → length message ≤ 65507
    → total_length (wrapped port message) ≡ 28 + length message
unfolding wrapped_head
wrapped-total port message fits = omega (arith, fits)

wrapped-port : (port : ℕ) (message : List ℕ) → port < 2 ^ 16 → port_of (wrapped port message) ≡ port
unfolding wrapped_head
wrapped-port port message fits = omega (arith, fits)

wrapped-length : (port : ℕ) (message : List ℕ) → length message ≤ 65507
    → length_of (wrapped port message) ≡ 8 + length message
unfolding wrapped_head
wrapped-length port message fits = omega (arith, fits)

neither : (one other : Bool) → one ≡ false → other ≡ false → one || other ≡ false
neither true other is not = cc
neither false true is not = cc
neither false false is not = refl

wrapped-faultless : (port : ℕ) (message : List ℕ) → length message ≤ 65507 → first_fault (wrapped port message) ≡ None
unfolding wrapped_head
wrapped-faultless port message fits =
    let octets = wrapped port message in
    let long = length-wrapped port message in
    let total = wrapped-total port message fits in
    let not_inside : nat_lt (total_length octets) 20 ≡ false = grind (arith, nat_tests, total) in
    let not_beyond : nat_lt (length octets) (total_length octets) ≡ false = grind (arith, nat_tests, long, total) in
    let not_short : nat_lt (length octets) 20 ≡ false = grind (arith, nat_tests, long) in
    rw not_short (ap (λ b. if b then Some bad.Total else None)
    (neither (nat_lt (total_length octets) 20) (nat_lt (length octets) (total_length octets)) not_inside not_beyond))

wrapped-message : (port : ℕ) (message : List ℕ) → length message ≤ 65507 → message_of (wrapped port message) ≡ message
unfolding wrapped_head
wrapped-message port message fits =
    take_all (length_of (wrapped port message) - 8) message (omega (arith, wrapped-length port message fits))

wrapped-datagram : (port : ℕ) (message : List ℕ) → 0 < length message → length message ≤ 65507
    → is_datagram (wrapped port message) ≡ true
unfolding wrapped_head
wrapped-datagram port message some fits =
    let octets = wrapped port message in
    let counted = wrapped-length port message fits in
    let above : nat_lt 8 (length_of octets) ≡ true = grind (arith, nat_tests, counted) in
    let within : nat_le (length_of octets) (length (payload_of octets)) ≡ true = grind (arith, nat_tests, counted) in
    rw (above, within) refl

-- a message that is wrapped is the message to its port
pub wrapped_packet : (port : ℕ) (message : List ℕ) → 0 < length message → length message ≤ 65507 → port < 2 ^ 16
    → ip_kind (wrapped port message) ≡ message_kind port message
unfolding wrapped_head
wrapped_packet port message some fits small =
    let octets = wrapped port message in
    ip_kind-whole octets (wrapped-faultless port message fits)
    (wrapped-total port message fits ∙ sym (length-wrapped port message))
    ∙ rw (wrapped-datagram port message some fits, wrapped-port port message small, wrapped-message port message fits)
    refl
