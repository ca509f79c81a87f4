use Rattle.std.proofs.Common.{◌∙◌, sym, arith}
use Rattle.gtpv2_ie.proofs.ImsiLemmas.{more_octets, no_more_octets}
use Rattle.gtpv2_ie.proofs.imsi.imsi_octets.Goals as goal

pub loop-i-preserved : goal.loop-i-preserved
loop-i-preserved c =
    rw (c.in_ok-push.ensures.items, c.pair_octet.ensures)
    (more_octets c.loop-i.octets.items c.args.digits.now c.loop-i.i (omega arith) ∙ c.loop-i.invariant)

pub returns : goal.returns
returns c = sym (no_more_octets c.loop-i.octets.items c.args.digits.now c.loop-i.i (omega arith)) ∙ c.loop-i.invariant
