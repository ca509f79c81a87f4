use Rattle.std.proofs.Common.{◌+◌, ◌∙◌, inl, ap}
use Rattle.report_lines.specs.declared.entry.Entry.TheVariants.{Effect}
use Rattle.audit_core.specs.Sharing.{arranged, under}
use Rattle.audit_core.specs.Agreeing.{lent, slot_effected}
use Rattle.audit_core.specs.Dues.{effects_lent}
use Rattle.audit_core.specs.Charges.{IsFirstBeyond}
use Rattle.audit_core.proofs.ItemBreaks.{items_agree, items_differ}
use Rattle.audit_core.proofs.KeyedLemmas.{none_under}
use Rattle.audit_core.proofs.WhyFound.{none_when, some_found}
use Rattle.audit_core.proofs.charges.effect_broken.Goals as goal

pub returns-in-Some-clause-some : goal.returns-in-Some-clause-some
returns-in-Some-clause-some c =
    inl (record {
      item = c.in-Some.beyond.now;
      first = some_found (λ one. IsFirstBeyond slot_effected c.args.slots (lent c.args.told.now) one.now)
          c.effect_of_none.result c.in-Some.beyond c.effect_of_none.ensures.some c.in-Some.is;
      is = c.in_ok-effect_beyond.ensures;
    })

pub in_slot_order-requires : goal.in_slot_order-requires
in_slot_order-requires c = λ later.
    ap (under (c.args.slots + later)) c.as_slice.ensures.value
    ∙ none_under slot_effected c.args.slots c.in_ok-keyed.keyed.items (lent c.args.told.now) c.in_ok-keyed.ensures
    (none_when c.effect_of_none.result c.effect_of_none.ensures.none c.in_default.not-Some) later

pub returns-clause-some : goal.returns-clause-some
returns-clause-some c =
    items_differ slot_effected Effect c.args.slots (lent c.args.told.now) (effects_lent c.args.due.now) c.in_ok-keyed.keyed.items
    c.as_slice-2.result.now c.effect_differs.result c.requires c.in_ok-keyed.ensures
    (c.as_slice-2.ensures.value ∙ c.in_ok-told.ensures ∙ ap (arranged c.args.slots) c.as_slice.ensures.value)
    (none_when c.effect_of_none.result c.effect_of_none.ensures.none c.in_default.not-Some)
    c.effect_differs.ensures.some

pub returns-clause-none : goal.returns-clause-none
returns-clause-none c =
    items_agree slot_effected Effect c.args.slots (lent c.args.told.now) (effects_lent c.args.due.now) c.in_ok-keyed.keyed.items
    c.as_slice-2.result.now c.effect_differs.result c.requires c.in_ok-keyed.ensures
    (c.as_slice-2.ensures.value ∙ c.in_ok-told.ensures ∙ ap (arranged c.args.slots) c.as_slice.ensures.value)
    (none_when c.effect_of_none.result c.effect_of_none.ensures.none c.in_default.not-Some)
    c.effect_differs.ensures.none
