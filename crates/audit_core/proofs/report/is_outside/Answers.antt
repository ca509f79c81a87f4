use Rattle.std.proofs.Common.{rules, ◌==◌, ◌||◌, ◌∙◌, nat_lt, length, ap}
use Rattle.audit_core.specs.Entries.{all_lines}
use Rattle.audit_core.proofs.ReportLemmas.{outside_other, outside_zero}
use Rattle.audit_core.proofs.report.is_outside.Goals as goal

pub returns-then-line-eq0 : goal.returns-then-line-eq0
returns-then-line-eq0 c = λ made are.
    ap (λ n. n == 0) c.if-line-eq0.true
    ∙ outside_zero c.line_of-line.result (length (all_lines made)) c.if-line-eq0.true
    ∙ ap (λ n. n == 0 || nat_lt (length (all_lines made)) n) c.line_of-line.ensures

pub returns-else-line-eq0 : goal.returns-else-line-eq0
returns-else-line-eq0 c = λ made are.
    outside_other c.args.ends.now made c.line_of-line.result c.epoch_at-epoch.result _ c.if-line-eq0.false are
    (c.epoch_at-epoch.ensures made are) (search rules)
    ∙ ap (λ n. n == 0 || nat_lt (length (all_lines made)) n) c.line_of-line.ensures
