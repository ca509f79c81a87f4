use Rattle.std.proofs.Common.{◌≡◌, ◌∙◌, length, ap}
use Rattle.audit_core.specs.Agreeing.{lent}
use Rattle.audit_core.specs.Entries.{slot_charged}
use Rattle.audit_core.specs.Entries.{rows_told}
use Rattle.audit_core.specs.Judged.{led_here}
use Rattle.report_lines.specs.declared.entry.Entry.TheVariants as entry
use Rattle.audit_core.specs.declared.sentence.Sentence.TheVariants as of
use Rattle.audit_core.proofs.BelongLemmas.{rows_belong}
use Rattle.audit_core.proofs.JudgeSteps.{agree_as, rows_step, item_as, judged_on}
use Rattle.audit_core.proofs.judge.Judge.judge_rows.Goals as goal

pub returns-clause-judged : goal.returns-clause-judged
returns-clause-judged c = λ own at epoch many due_is judged.
    let told = lent c.as_slice.result.now in
    let those = rows_told own.made (length at.prefix) own.entries in
    let told_is : told ≡ those =
    ap lent c.as_slice.ensures.value ∙ c.in_ok-told.ensures
    ∙ rows_belong own.made own.entries c.args.entries.now (length at.prefix) epoch.those in
    judged_on own at 7 of.Rows c.in_ok-found.found c.args.self.now c.offer.new.self c.offer.ensures.broken
    c.offer.ensures.entries
    (rows_step own at epoch.parts epoch.told_parts epoch.as_many c.args.self.now.broken c.in_ok-found.found
    (item_as slot_charged entry.Charge c.in_ok-found.found c.args.slots own.slots told those (c.args.due.now)
    (led_here own at).rows many told_is due_is c.in_ok-found.ensures.some)
    (agree_as slot_charged entry.Charge c.in_ok-found.found told those (c.args.due.now) (led_here own at).rows told_is due_is
    c.in_ok-found.ensures.none)) judged
