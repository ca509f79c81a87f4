use Rattle.gtpv2_ie.proofs.StandLemmas.{StandBetween-push}
use Rattle.gtpv2_ie.proofs.raw.list_ies.Goals as goal

pub loop-at-preserved : goal.loop-at-preserved
loop-at-preserved c = record {
  in_octets = c.in_ok-ie.ensures.found.inside;
  prefix = rw c.in_ok-push.ensures.items
      (StandBetween-push c.args.octets.now 0 c.loop-at.at c.loop-at.ies.items c.in_ok-ie.ie c.loop-at.invariant.prefix
      c.in_ok-ie.ensures.found);
}
