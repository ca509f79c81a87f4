-- The definitions at the example datagrams of RFC 791, appendix A, and at octets that are none.
use Rattle.std.proofs.Common.{◌≡◌, ℕ, List, [], ◌∷◌, Some, None, refl}
use Rattle.std.specs.Prelude.{replicate}
use Rattle.ipv4_packet.specs.declared.fault.IpBad.TheVariants as bad
use Rattle.ipv4_packet.specs.Fields.{header_len, total_length, fragment_offset_of, protocol_of, source_of, destination_of}
use Rattle.ipv4_packet.specs.Refusal.{first_fault}
use Rattle.ipv4_packet.specs.Payload.{ports_of, spi_of}

-- five words, by version and IHL, total length, flags and fragment offset, protocol; then what follows
abbrev datagram : ℕ → ℕ → ℕ → ℕ → ℕ → ℕ → List ℕ → List ℕ
datagram first high low flags offset protocol following =
    first ∷ 0 ∷ high ∷ low ∷ 0 ∷ 111 ∷ flags ∷ offset ∷ 123 ∷ protocol ∷ 0 ∷ 0 ∷ 10 ∷ 45 ∷ 0 ∷ 2 ∷ 203 ∷ 0 ∷ 113 ∷ 9
    ∷ following

-- example 1: one octet of data, of protocol 1
abbrev minimal : List ℕ
minimal = datagram 69 0 21 0 0 1 (0 ∷ [])

minimal-fault : first_fault minimal ≡ None
minimal-fault = refl

minimal-protocol : protocol_of minimal ≡ 1
minimal-protocol = refl

minimal-source : source_of minimal ≡ 0x0a2d0002
minimal-source = refl

minimal-destination : destination_of minimal ≡ 0xcb007109
minimal-destination = refl

minimal-ports : ports_of minimal ≡ None
minimal-ports = refl

-- example 2: 452 octets of data, cut into fragments of 256 and 196
abbrev first_fragment : List ℕ
first_fragment = datagram 69 1 20 32 0 6 (0 ∷ 80 ∷ 192 ∷ 0 ∷ replicate 252 0)

abbrev second_fragment : List ℕ
second_fragment = datagram 69 0 216 0 32 6 (replicate 196 0)

first_fragment-fault : first_fault first_fragment ≡ None
first_fragment-fault = refl

first_fragment-total_length : total_length first_fragment ≡ 276
first_fragment-total_length = refl

first_fragment-fragment_offset : fragment_offset_of first_fragment ≡ 0
first_fragment-fragment_offset = refl

first_fragment-ports : ports_of first_fragment ≡ Some (80, 49152)
first_fragment-ports = refl

second_fragment-fault : first_fault second_fragment ≡ None
second_fragment-fault = refl

second_fragment-total_length : total_length second_fragment ≡ 216
second_fragment-total_length = refl

second_fragment-fragment_offset : fragment_offset_of second_fragment ≡ 32
second_fragment-fragment_offset = refl

second_fragment-ports : ports_of second_fragment ≡ None
second_fragment-ports = refl

-- example 3: a header of eight words, 576 octets in all
abbrev with_options : List ℕ
with_options = datagram 72 2 64 0 0 6 (replicate 556 0)

with_options-fault : first_fault with_options ≡ None
with_options-fault = refl

with_options-header_len : header_len with_options ≡ 32
with_options-header_len = refl

with_options-total_length : total_length with_options ≡ 576
with_options-total_length = refl

-- each fault at its edge
cut_header-fault : first_fault (datagram 69 0 19 0 0 1 []) ≡ Some bad.Total
cut_header-fault = refl

short-fault : first_fault (replicate 19 69) ≡ Some bad.Short
short-fault = refl

version-fault : first_fault (datagram 101 0 20 0 0 1 []) ≡ Some bad.Version
version-fault = refl

four_words-fault : first_fault (datagram 68 0 20 0 0 1 []) ≡ Some bad.Header
four_words-fault = refl

long_header-fault : first_fault (datagram 70 0 20 0 0 1 []) ≡ Some bad.Header
long_header-fault = refl

total-fault : first_fault (datagram 69 0 21 0 0 1 []) ≡ Some bad.Total
total-fault = refl

-- the index of ESP and of AH, with just enough octets and with one too few
esp-index : spi_of (datagram 69 0 24 0 0 50 (0 ∷ 0 ∷ 1 ∷ 0 ∷ [])) ≡ Some 256
esp-index = refl

cut_esp-index : spi_of (datagram 69 0 23 0 0 50 (0 ∷ 0 ∷ 1 ∷ [])) ≡ None
cut_esp-index = refl

ah-index : spi_of (datagram 69 0 28 0 0 51 (17 ∷ 4 ∷ 0 ∷ 0 ∷ 0 ∷ 0 ∷ 1 ∷ 0 ∷ [])) ≡ Some 256
ah-index = refl

cut_ah-index : spi_of (datagram 69 0 27 0 0 51 (17 ∷ 4 ∷ 0 ∷ 0 ∷ 0 ∷ 0 ∷ 1 ∷ [])) ≡ None
cut_ah-index = refl

-- the ports of UDP and SCTP, and of no other protocol
udp-ports : ports_of (datagram 69 0 24 0 0 17 (19 ∷ 196 ∷ 39 ∷ 16 ∷ [])) ≡ Some (5060, 10000)
udp-ports = refl

sctp-ports : ports_of (datagram 69 0 24 0 0 132 (11 ∷ 89 ∷ 11 ∷ 90 ∷ [])) ≡ Some (2905, 2906)
sctp-ports = refl

icmp-ports : ports_of (datagram 69 0 24 0 0 1 (19 ∷ 196 ∷ 39 ∷ 16 ∷ [])) ≡ None
icmp-ports = refl

cut_udp-ports : ports_of (datagram 69 0 23 0 0 17 (19 ∷ 196 ∷ 39 ∷ [])) ≡ None
cut_udp-ports = refl

tcp-index : spi_of (datagram 69 0 24 0 0 6 (0 ∷ 0 ∷ 1 ∷ 0 ∷ [])) ≡ None
tcp-index = refl
