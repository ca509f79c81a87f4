use Rattle.std.proofs.Common.{ap, ◌∙◌}
use Rattle.slot_execution.specs.Lending.{verdict_with}
use Rattle.slot_execution.proofs.LentOctets.{with_own}
use Rattle.counter_half.proofs.lent.ToldVerdict.of.Goals as goal

pub invariant_of-result : goal.invariant_of-result
invariant_of-result c = c.lend_again.ensures.short c.octets.ensures.whole

pub returns : goal.returns
returns c =
    c.lend_again.ensures.verdict ∙ ap (verdict_with c.args.judged) c.octets.ensures.octets
    ∙ with_own c.args.judged c.args.ip.now c.requires
