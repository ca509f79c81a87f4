use Rattle.std.proofs.Common.{◌∙◌, Some, sym, ap, arith}
use Rattle.std.specs.Borrow.{Bor}
use Rattle.std.specs.Option.{option_map}
use Rattle.std.proofs.lemmas.List.{length-map}
use Rattle.report_lines.specs.declared.entry.ChargeEntry.{ChargeEntry}
use Rattle.report_lines.specs.declared.entry.Entry.TheVariants.{Charge}
use Rattle.audit_core.proofs.RestLemmas.{drop_mapped}
use Rattle.audit_core.specs.Agreeing.{lent}
use Rattle.audit_core.specs.Charges.{same_life}
use Rattle.audit_core.specs.Telling.{said_of}
use Rattle.audit_core.proofs.ItemLemmas.{find_here, find_next, find_none}
use Rattle.audit_core.proofs.charges.told_of_life.Goals as goal

pub returns-then-same_life : goal.returns-then-same_life
returns-then-same_life c =
    ap Some c.in_ok-charge_said.ensures
    ∙ ap (λ o. option_map said_of (option_map Charge o))
    (find_here (same_life c.args.due.now) (lent c.args.told.now) c.loop-one.one-index c.one-item.result.now
    (drop_mapped (λ (b : Bor ChargeEntry). b.now) c.args.told.now c.loop-one.one-index c.one-item.result
    c.loop-one-test.true c.one-item.is)
    (sym c.same_life.ensures ∙ c.if-same_life.true) c.loop-one.invariant)

pub loop-one-preserved : goal.loop-one-preserved
loop-one-preserved c =
    find_next (same_life c.args.due.now) (lent c.args.told.now) c.loop-one.one-index c.one-item.result.now
    (drop_mapped (λ (b : Bor ChargeEntry). b.now) c.args.told.now c.loop-one.one-index c.one-item.result
    c.loop-one-test.true c.one-item.is)
    (sym c.same_life.ensures ∙ c.if-same_life.false) c.loop-one.invariant

pub returns : goal.returns
returns c =
    ap (λ o. option_map said_of (option_map Charge o))
    (find_none (same_life c.args.due.now) (lent c.args.told.now) c.loop-one.one-index
    (omega (arith, length-map c.args.told.now (λ (b : Bor ChargeEntry). b.now))) c.loop-one.invariant)
