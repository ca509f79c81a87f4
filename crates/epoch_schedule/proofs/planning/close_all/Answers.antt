use Rattle.std.proofs.Common.{length-set, ◌∙◌, arith}
use Rattle.epoch_schedule.proofs.Batches.{closed_all, closed_more}
use Rattle.epoch_schedule.proofs.planning.close_all.Goals as goal

pub loop-slot-preserved : goal.loop-slot-preserved
loop-slot-preserved c =
    let at = c.loop-slot in record {
      many = length-set at.slots.items at.slot _ ∙ at.invariant.many;
      whole = closed_more at.slots.items at.slot c.index_mut-one.result.now _ _
          (omega (arith, c.loop-slot-test.true, c.len-slot-end.ensures, c.args.slots.now.ok.0, at.invariant.many))
          c.index_mut-one.ensures.value c.in_ok-close.ensures at.invariant.whole;
    }

pub returns : goal.returns
returns c =
    let at = c.loop-slot in
    closed_all at.slots.items at.slot _
    (omega (arith, c.loop-slot-test.false, c.len-slot-end.ensures, c.args.slots.now.ok.0, at.invariant.many))
    at.invariant.whole
