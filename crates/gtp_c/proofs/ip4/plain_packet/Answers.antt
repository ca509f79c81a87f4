use Rattle.gtp_c.proofs.HeadLemmas.{plain_whole}
use Rattle.gtp_c.proofs.ip4.plain_packet.Goals as goal

pub known-requires : goal.known-requires
known-requires c =
    plain_whole c.args.bytes.now c.be16_at-total.result c.be16_at-total.ensures c.if-bytes-ne-WITHOUT_OPTIONS.false
    c.if-total-lt-MINIMUM_LEN.false c.if-bytes-total.false
