use Rattle.std.proofs.Common.{◌≡◌, arith, length, subst}
use Rattle.std.specs.Borrow.{Bor}
use Rattle.std.proofs.lemmas.List.{length-map}
use Rattle.report_lines.specs.Records.{Effected}
use Rattle.audit_core.specs.Agreeing.{lent}
use Rattle.audit_core.specs.Dues.{effected, effects_lent}
use Rattle.audit_core.proofs.RestLemmas.{denied, drop_mapped}
use Rattle.audit_core.proofs.Differing.{SamePart, part_differs, part_ends, part_next, part_short, took}
use Rattle.audit_core.proofs.charges.same_effects.Goals as goal

pub returns-then-at-told : goal.returns-then-at-told
returns-then-at-told c =
    part_short (lent c.args.told.now) (effects_lent c.args.due.now) c.loop-at.at
    (omega (arith, length-map c.args.told.now (λ (b : Bor Effected). b.now))) c.loop-at.invariant

pub returns-then-not-told_effect : goal.returns-then-not-told_effect
returns-then-not-told_effect c =
    part_differs (lent c.args.told.now) (effects_lent c.args.due.now) c.loop-at.at
    c.index-told-at.result.now (effected c.index-due-at.result)
    (drop_mapped (λ (b : Bor Effected). b.now) c.args.told.now c.loop-at.at c.index-told-at.result (omega arith)
    c.index-told-at.is)
    (drop_mapped effected c.args.due.now c.loop-at.at c.index-due-at.result (omega arith) c.index-due-at.is)
    (denied c.told_effect.ensures c.if-not-told_effect.true) c.loop-at.invariant

pub loop-at-preserved : goal.loop-at-preserved
loop-at-preserved c =
    part_next (lent c.args.told.now) (effects_lent c.args.due.now) c.loop-at.at
    c.index-told-at.result.now (effected c.index-due-at.result)
    (took (λ (b : Bor Effected). b.now) c.args.told.now c.loop-at.at c.index-told-at.result (omega arith)
    c.index-told-at.is)
    (took effected c.args.due.now c.loop-at.at c.index-due-at.result (omega arith) c.index-due-at.is)
    (c.told_effect.ensures.0 c.if-not-told_effect.false)
    (omega (arith, length-map c.args.told.now (λ (b : Bor Effected). b.now)))
    (omega (arith, length-map c.args.due.now effected)) c.loop-at.invariant

pub returns : goal.returns
returns c =
    let told = lent c.args.told.now in
    let made = effects_lent c.args.due.now in
    let end : c.loop-at.at ≡ length c.args.due.now = omega arith in
    part_ends told made (length c.args.due.now) (omega (arith, length-map c.args.due.now effected))
    (subst (SamePart told made) end c.loop-at.invariant)
