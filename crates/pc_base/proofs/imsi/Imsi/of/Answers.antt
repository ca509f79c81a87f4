use Rattle.pc_base.proofs.PaddingLemmas.{is_kept}
use Rattle.pc_base.proofs.imsi.Imsi.of.Goals as goal

pub invariant_of-result : goal.invariant_of-result
invariant_of-result c = rw c.copy_from_slice.ensures.after (is_kept c.args.digits.now c.if-not-is_imsi.ensures)
