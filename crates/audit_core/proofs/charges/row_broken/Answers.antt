use Rattle.std.proofs.Common.{◌+◌, ◌∙◌, inl, ap}
use Rattle.report_lines.specs.declared.entry.Entry.TheVariants.{Charge}
use Rattle.audit_core.specs.Sharing.{arranged, under}
use Rattle.audit_core.specs.Agreeing.{lent}
use Rattle.audit_core.specs.Entries.{slot_charged}
use Rattle.audit_core.specs.Charges.{IsFirstBeyond}
use Rattle.audit_core.proofs.ItemBreaks.{items_agree, items_differ}
use Rattle.audit_core.proofs.KeyedLemmas.{none_under}
use Rattle.audit_core.proofs.WhyFound.{none_when, some_found}
use Rattle.audit_core.proofs.charges.row_broken.Goals as goal

pub returns-in-Some-clause-some : goal.returns-in-Some-clause-some
returns-in-Some-clause-some c =
    inl (record {
      item = c.in-Some.beyond.now;
      first = some_found (λ one. IsFirstBeyond slot_charged c.args.slots (lent c.args.told.now) one.now)
          c.charge_of_none.result c.in-Some.beyond c.charge_of_none.ensures.some c.in-Some.is;
      is = c.in_ok-charge_beyond.ensures;
    })

pub in_slot_order-requires : goal.in_slot_order-requires
in_slot_order-requires c = λ later.
    ap (under (c.args.slots + later)) c.as_slice.ensures.value
    ∙ none_under slot_charged c.args.slots c.in_ok-keyed.keyed.items (lent c.args.told.now) c.in_ok-keyed.ensures
    (none_when c.charge_of_none.result c.charge_of_none.ensures.none c.in_default.not-Some) later

pub returns-clause-some : goal.returns-clause-some
returns-clause-some c =
    items_differ slot_charged Charge c.args.slots (lent c.args.told.now) (c.args.due.now) c.in_ok-keyed.keyed.items
    c.as_slice-2.result.now c.row_differs.result c.requires c.in_ok-keyed.ensures
    (c.as_slice-2.ensures.value ∙ c.in_ok-told.ensures ∙ ap (arranged c.args.slots) c.as_slice.ensures.value)
    (none_when c.charge_of_none.result c.charge_of_none.ensures.none c.in_default.not-Some)
    c.row_differs.ensures.some

pub returns-clause-none : goal.returns-clause-none
returns-clause-none c =
    items_agree slot_charged Charge c.args.slots (lent c.args.told.now) (c.args.due.now) c.in_ok-keyed.keyed.items
    c.as_slice-2.result.now c.row_differs.result c.requires c.in_ok-keyed.ensures
    (c.as_slice-2.ensures.value ∙ c.in_ok-told.ensures ∙ ap (arranged c.args.slots) c.as_slice.ensures.value)
    (none_when c.charge_of_none.result c.charge_of_none.ensures.none c.in_default.not-Some)
    c.row_differs.ensures.none
