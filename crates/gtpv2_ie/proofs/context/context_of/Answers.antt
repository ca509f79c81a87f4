use Rattle.gtpv2_ie.proofs.ContextLemmas.{put_one_more}
use Rattle.gtpv2_ie.proofs.ContextValidity.{holds_more, context_valid}
use Rattle.gtpv2_ie.proofs.context.context_of.Goals as goal

pub loop-ie-preserved : goal.loop-ie-preserved
loop-ie-preserved c = record {
  value =
      put_one_more c.args.octets.now c.deref-ie-items.result.now c.loop-ie.ie-index _ c.loop-ie.context c.put_raw.new.context
      c.loop-ie-test.true c.loop-ie.invariant.value c.in_ok-put_raw.ensures.put;
  holds =
      holds_more c.deref-ie-items.result.now c.loop-ie.ie-index _ c.loop-ie.context c.put_raw.new.context _
      c.loop-ie-test.true c.loop-ie.invariant.holds c.in_ok-put_raw.ensures.counted c.in_ok-put_raw.ensures.put;
}

pub returns-clause-valid : goal.returns-clause-valid
returns-clause-valid c = λ fits.
    context_valid c.args.octets.now c.deref-ie-items.result.now c.loop-ie.ie-index c.loop-ie.context
    (rw c.deref-ie-items.ensures.value c.in-Ok.ensures.found) c.loop-ie-test.false c.loop-ie.invariant.holds fits
