use Rattle.gtpv2_msg.proofs.ReadContexts.{value-more, fault-more}
use Rattle.gtpv2_msg.proofs.elements.read_message_elements.Goals as goal

pub loop-raw-preserved : goal.loop-raw-preserved
loop-raw-preserved c = record {
  value =
      value-more c.args.octets.now c.args.raws.now c.loop-raw.raw-index _ c.loop-raw.ies.items c.push.new.self.items
      c.in_ok-ie.ie c.loop-raw-test.true c.loop-raw.invariant.value c.in_ok-ie.ensures.value
      c.in_ok-push.ensures.items;
  fault =
      fault-more c.args.octets.now c.args.inside.now c.args.raws.now c.loop-raw.raw-index _ c.loop-raw.first
      c.in_ok-ie.fault c.or-first.result c.loop-raw-test.true c.loop-raw.invariant.fault c.in_ok-ie.ensures.fault
      c.or-first.ensures;
}
