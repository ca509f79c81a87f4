use Rattle.std.proofs.Common.{◌≡◌, ◌+◌, ◌<◌, ◌++◌, ◌∙◌, Some, drop, find, get_or, length, take, sym, ap, subst, arith}
use Rattle.std.specs.Option.{option_map}
use Rattle.std.specs.Prelude.{All, Contains}
use Rattle.std.proofs.lemmas.List.{take-append-drop, take_all}
use Rattle.std.proofs.lemmas.List.Elements.{All-get_or, All-more}
use Rattle.report_lines.specs.declared.entry.Entry.TheVariants.{Charge}
use Rattle.audit_core.specs.Entries.{slot_charged}
use Rattle.audit_core.specs.Sharing.{under}
use Rattle.audit_core.specs.Agreeing.{of_slot}
use Rattle.audit_core.specs.Agreeing.{lent}
use Rattle.audit_core.specs.Sharing.{under}
use Rattle.audit_core.proofs.AmongLemmas.{of_all, of_its_slot, share_count, share_is}
use Rattle.audit_core.proofs.RestLemmas.{denied, drop_next}
use Rattle.audit_core.specs.Charges.{same_life}
use Rattle.audit_core.specs.Telling.{tells_said}
use Rattle.audit_core.proofs.TellLemmas.{tells_is}
use Rattle.audit_core.proofs.charges.open_missing.Goals as goal

pub index-requires : goal.index-requires
index-requires c =
    let many : length c.in_ok-shares.shares.items ≡ c.args.slots =
    share_count (λ v. v.items) c.in_ok-shares.shares.items c.args.slots c.as_slice.result.now c.in_ok-shares.ensures in
    let below : slot_charged (get_or c.args.due.now c.loop-charge.charge-index c.charge-item.result) < c.args.slots =
    All-get_or (λ charge. slot_charged charge < c.args.slots) c.args.due.now c.loop-charge.charge-index
    c.charge-item.result c.loop-charge-test.true c.requires in
    let same : slot_charged c.charge-item.result
    ≡ slot_charged (get_or c.args.due.now c.loop-charge.charge-index c.charge-item.result) =
    ap slot_charged c.charge-item.is in
    omega (arith, many, below, same, c.slot_of.ensures, c.index.view_is)

pub returns-then-not-is_among-clause-some : goal.returns-then-not-is_among-clause-some
returns-then-not-is_among-clause-some c =
    let told = lent c.args.told.now in
    let charge = c.charge-item.result in
    let slot = slot_charged charge in
    let below : slot_charged (get_or c.args.due.now c.loop-charge.charge-index charge) < c.args.slots =
    All-get_or (λ some. slot_charged some < c.args.slots) c.args.due.now c.loop-charge.charge-index
    charge c.loop-charge-test.true c.requires in
    let same : slot ≡ slot_charged (get_or c.args.due.now c.loop-charge.charge-index charge) =
    ap slot_charged c.charge-item.is in
    let at : c.index.inside.0 ≡ slot = c.index.view_is ∙ c.slot_of.ensures in
    let within : c.index.inside.0 < c.args.slots = omega (arith, below, same, at) in
    let share : c.as_slice-in-loop-charge.result.now ≡ under c.index.inside.0 c.as_slice.result.now =
    c.as_slice-in-loop-charge.ensures.value
    ∙ share_is (λ v. v.items) c.in_ok-shares.shares.items c.args.slots c.as_slice.result.now c.index.inside.0
    c.index-in-loop-charge.result.now c.in_ok-shares.ensures within c.index-in-loop-charge.ensures in
    let its : lent c.as_slice-in-loop-charge.result.now ≡ of_slot slot_charged slot told =
    ap lent share ∙ ap (λ ks. lent (under c.index.inside.0 ks)) c.as_slice.ensures.value
    ∙ c.in_ok-keyed.ensures c.index.inside.0 ∙ ap (λ k. of_slot slot_charged k told) at in
    let made = c.args.due.now in
    let i = c.loop-charge.charge-index in
    record {
      prefix = take i made;
      open_ = charge;
      later = drop (i + 1) made;
      parts = sym (take-append-drop i made)
          ∙ ap (λ rest. take i made ++ rest) (drop_next made i charge c.loop-charge-test.true c.charge-item.is);
      holds = c.loop-charge.invariant;
      missing = λ there. denied c.is_among.ensures c.if-not-is_among.true
          (subst (λ some. Contains some charge) (sym its) (of_its_slot slot_charged told charge there));
      is = c.in_ok-tells.ensures ∙ (λ j. tells_said (c.in_ok-stands.ensures j) (Some (c.in_ok-asked.ensures j)))
          ∙ tells_is (option_map Charge (find (same_life charge) told)) (Some (Charge charge));
    }

pub loop-charge-preserved : goal.loop-charge-preserved
loop-charge-preserved c =
    let told = lent c.args.told.now in
    let charge = c.charge-item.result in
    let slot = slot_charged charge in
    let below : slot_charged (get_or c.args.due.now c.loop-charge.charge-index charge) < c.args.slots =
    All-get_or (λ some. slot_charged some < c.args.slots) c.args.due.now c.loop-charge.charge-index
    charge c.loop-charge-test.true c.requires in
    let same : slot ≡ slot_charged (get_or c.args.due.now c.loop-charge.charge-index charge) =
    ap slot_charged c.charge-item.is in
    let at : c.index.inside.0 ≡ slot = c.index.view_is ∙ c.slot_of.ensures in
    let within : c.index.inside.0 < c.args.slots = omega (arith, below, same, at) in
    let share : c.as_slice-in-loop-charge.result.now ≡ under c.index.inside.0 c.as_slice.result.now =
    c.as_slice-in-loop-charge.ensures.value
    ∙ share_is (λ v. v.items) c.in_ok-shares.shares.items c.args.slots c.as_slice.result.now c.index.inside.0
    c.index-in-loop-charge.result.now c.in_ok-shares.ensures within c.index-in-loop-charge.ensures in
    let its : lent c.as_slice-in-loop-charge.result.now ≡ of_slot slot_charged slot told =
    ap lent share ∙ ap (λ ks. lent (under c.index.inside.0 ks)) c.as_slice.ensures.value
    ∙ c.in_ok-keyed.ensures c.index.inside.0 ∙ ap (λ k. of_slot slot_charged k told) at in
    let among : Contains told charge = of_all slot_charged told charge slot
    (subst (λ some. Contains some charge) its (c.is_among.ensures.0 c.if-not-is_among.false)) in
    All-more (Contains told) c.args.due.now c.loop-charge.charge-index charge c.loop-charge-test.true
    c.loop-charge.invariant (subst (Contains told) c.charge-item.is among)

pub returns-clause-none : goal.returns-clause-none
returns-clause-none c =
    subst (All (Contains (lent c.args.told.now)))
    (take_all c.loop-charge.charge-index c.args.due.now (omega arith)) c.loop-charge.invariant
