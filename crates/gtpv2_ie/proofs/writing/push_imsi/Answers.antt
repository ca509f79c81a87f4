use Rattle.std.proofs.Common.{arith}
use Rattle.gtpv2_ie.proofs.ImsiLemmas.{length-imsi_octets}
use Rattle.gtpv2_ie.proofs.writing.push_imsi.Goals as goal

pub push_ie-requires : goal.push_ie-requires
push_ie-requires c =
    rw (c.deref.ensures.value, c.in_ok-octets.ensures) (omega (arith, (length-imsi_octets c.args.digits.now).1))
