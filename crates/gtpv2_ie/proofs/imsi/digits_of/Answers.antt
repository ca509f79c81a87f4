use Rattle.std.proofs.Common.{sym, ◌∙◌}
use Rattle.gtpv2_ie.proofs.ImsiLemmas.{one_octet, no_octet, no_more}
use Rattle.gtpv2_ie.proofs.imsi.digits_of.Goals as goal

pub returns-in_default : goal.returns-in_default
returns-in_default c =
    sym (no_octet c.loop-i.digits.items c.args.octets.now c.loop-i.i c.loop-i-test.true (sym c.in_default.ensures))
    ∙ c.loop-i.invariant

pub loop-i-preserved : goal.loop-i-preserved
loop-i-preserved c =
    rw c.in_ok-push_pair.ensures
    (one_octet c.loop-i.digits.items c.args.octets.now c.loop-i.i c.in-Some.pair c.loop-i-test.true
    (sym c.in-Some.ensures)
    ∙ c.loop-i.invariant)

pub returns : goal.returns
returns c = sym (no_more c.loop-i.digits.items c.args.octets.now c.loop-i.i c.loop-i-test.false) ∙ c.loop-i.invariant
