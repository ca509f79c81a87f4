use Rattle.std.proofs.Common.{arith}
use Rattle.audit_core.proofs.FoundLemmas.{all_others}
use Rattle.audit_core.proofs.matching.note_found.Goals as goal

pub returns-then-line-first : goal.returns-then-line-first
returns-then-line-first c = λ before count found.
    all_others c.args.first count before c.args.entry c.args.all.now.items found
    (λ i within is. omega (arith, c.if-line-first.true, c.line_of-line.ensures, is))
