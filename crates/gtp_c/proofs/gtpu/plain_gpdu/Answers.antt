-- Both clauses follow from what octets 1 to 4 are.
use Rattle.std.proofs.Common.{◌≡◌, ◌-◌, ◌≤◌, length, arith}
use Rattle.gtpu_codec.specs.Head.{length_in}
use Rattle.wire_octets.specs.Numbers.{be16_at}
use Rattle.gtp_c.proofs.GtpuLemmas.{plain_is_message, said_plain}
use Rattle.gtp_c.proofs.gtpu.plain_gpdu.Goals as goal

pub returns-clause-faultless : goal.returns-clause-faultless
returns-clause-faultless c =
    let octets = c.args.bytes.now in
    let whole : 8 ≤ length octets = omega arith in
    let plain : be16_at octets 0 ≡ 0x30ff = omega arith in
    let there : length_in octets ≤ length octets - 8 = omega arith in
    (plain_is_message octets whole plain (omega (arith, c.type_inv.bytes 1)) there).0

pub returns-clause-message : goal.returns-clause-message
returns-clause-message c =
    let octets = c.args.bytes.now in
    let whole : 8 ≤ length octets = omega arith in
    let plain : be16_at octets 0 ≡ 0x30ff = omega arith in
    let len : c.from-body_len.result ≡ length_in octets = omega arith in
    let there : length_in octets ≤ length octets - 8 = omega arith in
    said_plain octets c.from-body_len.result c.be32_at.result c.octet.result len c.be32_at.ensures c.octet.ensures whole there
    (plain_is_message octets whole plain (omega (arith, c.type_inv.bytes 1)) there).1
