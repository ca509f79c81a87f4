use Rattle.std.proofs.Common.{length, sym, ap, ◌∙◌, arith}
use Rattle.check_halves.proofs.meaning.meant_by.Goals as goal

pub loop-line-init : goal.loop-line-init
loop-line-init c = c.new-subscribers.ensures.len ∙ sym (ap length c.new-book.ensures)

pub loop-line-preserved : goal.loop-line-preserved
loop-line-preserved c = omega (arith, c.in_ok-meant.ensures.many, c.decide_line.new.subscribers.ok.0)
