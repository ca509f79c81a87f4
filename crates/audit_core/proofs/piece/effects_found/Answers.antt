use Rattle.std.proofs.Common.{◌≡◌, ◌∙◌, ap, refl, sym, subst}
use Rattle.std.specs.List.{filter_map}
use Rattle.audit_core.specs.Agreeing.{lent, slot_effected}
use Rattle.audit_core.specs.Belonging.{effect_of}
use Rattle.audit_core.specs.Dues.{effects_lent}
use Rattle.audit_core.specs.Pieces.{FoundTo, led_by}
use Rattle.report_lines.specs.declared.entry.Entry.TheVariants as entry
use Rattle.audit_core.specs.declared.sentence.Sentence.TheVariants as of
use Rattle.audit_core.proofs.JudgeSteps.{agree_as, item_as}
use Rattle.audit_core.proofs.PieceSteps.{to_step}
use Rattle.audit_core.proofs.piece.effects_found.Goals as goal

pub returns : goal.returns
returns c = λ own many entries_are due_is to.
    let told = lent c.as_slice.result.now in
    let those = filter_map effect_of own.entries in
    let told_is : told ≡ those =
    ap lent c.as_slice.ensures.value ∙ c.in_ok-told.ensures ∙ ap (filter_map effect_of) entries_are in
    subst (FoundTo own 7) (sym c.found_behind.ensures)
    (to_step own 6 c.args.found of.Effects c.in_ok-place.place refl
    (item_as slot_effected entry.Effect c.in_ok-place.place c.args.slots own.slots told those
    (effects_lent c.args.due.now) (led_by own).effects many told_is due_is c.in_ok-place.ensures.some)
    (λ before. agree_as slot_effected entry.Effect c.in_ok-place.place told those (effects_lent c.args.due.now)
    (led_by own).effects told_is due_is c.in_ok-place.ensures.none) to)
