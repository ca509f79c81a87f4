use Rattle.ipv4_packet.proofs.PacketLemmas.{spells_prefix}
use Rattle.std.proofs.Common.{arith}
use Rattle.ipv4_packet.proofs.packet.Ip4.read.Goals as goal

pub returns-clause-found : goal.returns-clause-found
returns-clause-found c =
    spells_prefix c.args.bytes.now c.be16_at-total.result c.be16_at-total.ensures c.if-bytes-ne-VERSION.false
    c.if-words-lt-MINIMUM_WORDS.false (omega arith) c.if-bytes-total.false
