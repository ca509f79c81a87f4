use Rattle.std.proofs.Common.{arith, ◌∙◌}
use Rattle.counter_half.proofs.inner.DataInner.learn_batches.Goals as goal

pub loop-learnt-preserved : goal.loop-learnt-preserved
loop-learnt-preserved g c =
    let kept = c.loop-learnt.invariant in
    let step = c.in_ok-more.ensures in
    let count = step.learnt c.if-not-more.false in
    record {
      name = step.name ∙ kept.name;
      handled = step.handled ∙ kept.handled;
      notes = step.notes ∙ kept.notes;
      done = step.done ∙ kept.done;
      asks = step.counts.0 ∙ kept.asks;
      learns = step.counts.1 ∙ kept.learns;
      batches = omega (arith, kept.batches, count);
      met = λ is. absurd (omega (arith, is));
      empties = step.asked c.if-not-more.false ∙ kept.empties;
    }
