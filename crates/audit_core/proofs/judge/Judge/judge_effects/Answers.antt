use Rattle.std.proofs.Common.{◌≡◌, ◌∙◌, length, ap}
use Rattle.audit_core.specs.Agreeing.{lent, slot_effected}
use Rattle.audit_core.specs.Dues.{effects_lent}
use Rattle.audit_core.specs.Entries.{effects_told}
use Rattle.audit_core.specs.Judged.{led_here}
use Rattle.report_lines.specs.declared.entry.Entry.TheVariants as entry
use Rattle.audit_core.specs.declared.sentence.Sentence.TheVariants as of
use Rattle.audit_core.proofs.BelongLemmas.{effects_belong}
use Rattle.audit_core.proofs.JudgeSteps.{agree_as, effects_step, item_as, judged_on}
use Rattle.audit_core.proofs.judge.Judge.judge_effects.Goals as goal

pub returns-clause-judged : goal.returns-clause-judged
returns-clause-judged c = λ own at epoch many due_is judged.
    let told = lent c.as_slice.result.now in
    let those = effects_told own.made (length at.prefix) own.entries in
    let told_is : told ≡ those =
    ap lent c.as_slice.ensures.value ∙ c.in_ok-told.ensures
    ∙ effects_belong own.made own.entries c.args.entries.now (length at.prefix) epoch.those in
    judged_on own at 6 of.Effects c.in_ok-found.found c.args.self.now c.offer.new.self c.offer.ensures.broken
    c.offer.ensures.entries
    (effects_step own at epoch.parts epoch.told_parts epoch.as_many c.args.self.now.broken c.in_ok-found.found
    (item_as slot_effected entry.Effect c.in_ok-found.found c.args.slots own.slots told those (effects_lent c.args.due.now)
    (led_here own at).effects many told_is due_is c.in_ok-found.ensures.some)
    (agree_as slot_effected entry.Effect c.in_ok-found.found told those (effects_lent c.args.due.now) (led_here own at).effects told_is due_is
    c.in_ok-found.ensures.none)) judged
