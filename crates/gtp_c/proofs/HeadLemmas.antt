-- No fault of a head has number 0, a packet with ports has no SPI, and one without options wants few tests.
use Rattle.std.proofs.Common.{◌≡◌, ℕ, ◌/◌, ◌%◌, ◌<◌, ◌≤◌, List, length, take, Some, None, ap, arith}
use Rattle.std.proofs.lemmas.Bool.Decides.{nat_tests}
use Rattle.std.specs.Prelude.{slice_index}
use Rattle.gtpv2_msg.specs.declared.fault.CBad.{CBad}
use Rattle.gtpv2_msg.specs.declared.fault.CBad.TheVariants as bad
use Rattle.gtp_c_base.specs.Fault.{message_code}
use Rattle.ipv4_packet.specs.Fields.{version_of, header_words, total_length}
use Rattle.ipv4_packet.specs.Packet.{IsPacket}
use Rattle.ipv4_packet.specs.Payload.{ports_of, spi_of}
use Rattle.ipv4_packet.specs.Refusal.{first_fault}
use Rattle.ipv4_packet.proofs.PacketLemmas.{spells_prefix}

pub some_code : (fault : CBad) → 0 < message_code fault
some_code bad.Short = omega arith
some_code bad.Version = omega arith
some_code bad.Piggyback = omega arith
some_code bad.Length = omega arith
some_code bad.Kind = omega arith
some_code (bad.Missing kind instance) = omega arith
some_code (bad.Incorrect kind instance) = omega arith
some_code bad.NoMemory = omega arith

pub no_spi : (packet : List ℕ) (ports : ℕ × ℕ) → ports_of packet ≡ Some ports → spi_of packet ≡ None
no_spi packet ports is = grind (arith, nat_tests)

-- octets that begin with a packet without options
pub plain_whole : (octets : List ℕ) (total : ℕ) → total ≡ total_length octets → slice_index octets 0 ≡ 0x45
    → 20 ≤ total → total ≤ length octets → IsPacket (take total octets)
plain_whole octets total told first long here =
    let version : version_of octets ≡ 4 = ap (λ n. n / 16) first in
    let words : header_words octets ≡ 5 = ap (λ n. n % 16) first in
    (spells_prefix octets total told version (omega (arith, words)) (omega (arith, words, long)) here).whole

pub plain_faultless : (octets : List ℕ) (total : ℕ) → total ≡ total_length octets → slice_index octets 0 ≡ 0x45
    → 20 ≤ total → total ≤ length octets → first_fault octets ≡ None
plain_faultless octets total told first long here =
    let version : version_of octets ≡ 4 = ap (λ n. n / 16) first in
    let words : header_words octets ≡ 5 = ap (λ n. n % 16) first in
    grind (arith, nat_tests, told, version, words, long, here)
