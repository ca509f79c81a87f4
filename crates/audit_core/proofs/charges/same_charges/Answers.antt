use Rattle.std.proofs.Common.{◌≡◌, arith, length, subst}
use Rattle.std.specs.Borrow.{Bor}
use Rattle.std.proofs.lemmas.List.{length-map}
use Rattle.report_lines.specs.declared.entry.ChargeEntry.{ChargeEntry}
use Rattle.audit_core.specs.Agreeing.{lent}
use Rattle.audit_core.proofs.RestLemmas.{denied, drop_mapped, drop_next}
use Rattle.audit_core.proofs.Differing.{SamePart, part_differs, part_ends, part_next, part_short, took, took_one}
use Rattle.audit_core.proofs.charges.same_charges.Goals as goal

pub returns-then-at-told : goal.returns-then-at-told
returns-then-at-told c =
    part_short (lent c.args.told.now) c.args.due.now c.loop-at.at
    (omega (arith, length-map c.args.told.now (λ (b : Bor ChargeEntry). b.now))) c.loop-at.invariant

pub returns-then-not-same_charge : goal.returns-then-not-same_charge
returns-then-not-same_charge c =
    part_differs (lent c.args.told.now) c.args.due.now c.loop-at.at c.index-told-at.result.now c.index-due-at.result
    (drop_mapped (λ (b : Bor ChargeEntry). b.now) c.args.told.now c.loop-at.at c.index-told-at.result (omega arith)
    c.index-told-at.is)
    (drop_next c.args.due.now c.loop-at.at c.index-due-at.result (omega arith) c.index-due-at.is)
    (denied c.same_charge.ensures c.if-not-same_charge.true) c.loop-at.invariant

pub loop-at-preserved : goal.loop-at-preserved
loop-at-preserved c =
    part_next (lent c.args.told.now) c.args.due.now c.loop-at.at c.index-told-at.result.now c.index-due-at.result
    (took (λ (b : Bor ChargeEntry). b.now) c.args.told.now c.loop-at.at c.index-told-at.result (omega arith)
    c.index-told-at.is)
    (took_one c.args.due.now c.loop-at.at c.index-due-at.result (omega arith) c.index-due-at.is)
    (c.same_charge.ensures.0 c.if-not-same_charge.false)
    (omega (arith, length-map c.args.told.now (λ (b : Bor ChargeEntry). b.now))) (omega arith) c.loop-at.invariant

pub returns : goal.returns
returns c =
    let told = lent c.args.told.now in
    let made = c.args.due.now in
    let end : c.loop-at.at ≡ length made = omega arith in
    part_ends told made (length made) (omega arith) (subst (SamePart told made) end c.loop-at.invariant)
