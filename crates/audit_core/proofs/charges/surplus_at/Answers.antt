use Rattle.std.proofs.Common.{◌≡◌, ◌∙◌, length, map, take, arith}
use Rattle.std.specs.Borrow.{Bor}
use Rattle.std.specs.Global.{Vec}
use Rattle.std.proofs.lemmas.List.{length-map}
use Rattle.report_lines.specs.declared.entry.ChargeEntry.{ChargeEntry}
use Rattle.audit_core.specs.Agreeing.{lent, of_slot}
use Rattle.audit_core.specs.Entries.{slot_charged}
use Rattle.audit_core.proofs.AmongLemmas.{nth_count, nth_is}
use Rattle.audit_core.proofs.RestLemmas.{denied}
use Rattle.audit_core.proofs.SurplusLemmas.{surplus_none, surplus_some}
use Rattle.audit_core.proofs.SurplusSteps.{many_beyond, many_here, many_own, none_more, shares_more}
use Rattle.audit_core.proofs.charges.surplus_at.Goals as goal

pub loop-at-init : goal.loop-at-init
loop-at-init c = record {
  none = λ k low many. absurd (omega (arith, low));
  before = c.in_ok-before.ensures;
}

pub returns-then-slot-slots : goal.returns-then-slot-slots
returns-then-slot-slots c =
    let told = c.args.told.now in
    let here = many_here c.args.due.now told c.loop-at.at c.index-told-at.result c.loop-at-test.true c.index-told-at.is in
    surplus_some c.args.due.now (lent told) c.loop-at.at
    (here.0 (many_beyond c.args.due.now (take c.loop-at.at (lent told)) c.index-told-at.result.now c.args.slots c.requires
    (omega (arith, c.slot_of.ensures))))
    c.loop-at.invariant.none

pub index-requires : goal.index-requires
index-requires c =
    omega (
      arith,
      nth_count (λ (v : Vec ChargeEntry). v.items) c.loop-at.before.items
          (λ k. of_slot slot_charged k (take c.loop-at.at (lent c.args.told.now))) c.args.slots c.loop-at.invariant.before,
    )

pub index-requires-in-loop-at : goal.index-requires-in-loop-at
index-requires-in-loop-at c =
    omega (
      arith,
      nth_count (λ (v : Vec ChargeEntry). v.items) c.in_ok-known.known.items
          (λ k. of_slot slot_charged k c.args.due.now) c.args.slots c.in_ok-known.ensures,
    )

pub returns-then-is_too_many : goal.returns-then-is_too_many
returns-then-is_too_many c =
    let told = c.args.told.now in
    let prefix = take c.loop-at.at (lent told) in
    let one = c.index-told-at.result in
    let its : c.slot.inside.0 ≡ slot_charged one.now = c.slot.view_is ∙ c.slot_of.ensures in
    let before : c.as_slice.result.now ≡ of_slot slot_charged c.slot.inside.0 prefix =
    c.as_slice.ensures.value
    ∙ nth_is (λ (v : Vec ChargeEntry). v.items) c.loop-at.before.items (λ k. of_slot slot_charged k prefix) c.args.slots
    c.slot.inside.0 c.index.result.now c.loop-at.invariant.before (omega arith) c.index.ensures in
    let known : c.as_slice-in-loop-at.result.now ≡ of_slot slot_charged c.slot.inside.0 c.args.due.now =
    c.as_slice-in-loop-at.ensures.value
    ∙ nth_is (λ (v : Vec ChargeEntry). v.items) c.in_ok-known.known.items (λ k. of_slot slot_charged k c.args.due.now)
    c.args.slots c.slot.inside.0 c.index-in-loop-at.result.now c.in_ok-known.ensures (omega arith) c.index-in-loop-at.ensures in
    let own = many_own c.args.due.now prefix c.as_slice-in-loop-at.result.now c.as_slice.result.now one.now c.slot.inside.0 its known
    before in
    let here = many_here c.args.due.now told c.loop-at.at one c.loop-at-test.true c.index-told-at.is in
    surplus_some c.args.due.now (lent told) c.loop-at.at
    (here.0 (own.0 (c.is_too_many.ensures.0 c.if-is_too_many.true))) c.loop-at.invariant.none

pub loop-at-preserved : goal.loop-at-preserved
loop-at-preserved c =
    let told = c.args.told.now in
    let prefix = take c.loop-at.at (lent told) in
    let one = c.index-told-at.result in
    let its : c.slot.inside.0 ≡ slot_charged one.now = c.slot.view_is ∙ c.slot_of.ensures in
    let before : c.as_slice.result.now ≡ of_slot slot_charged c.slot.inside.0 prefix =
    c.as_slice.ensures.value
    ∙ nth_is (λ (v : Vec ChargeEntry). v.items) c.loop-at.before.items (λ k. of_slot slot_charged k prefix) c.args.slots
    c.slot.inside.0 c.index.result.now c.loop-at.invariant.before (omega arith) c.index.ensures in
    let known : c.as_slice-in-loop-at.result.now ≡ of_slot slot_charged c.slot.inside.0 c.args.due.now =
    c.as_slice-in-loop-at.ensures.value
    ∙ nth_is (λ (v : Vec ChargeEntry). v.items) c.in_ok-known.known.items (λ k. of_slot slot_charged k c.args.due.now)
    c.args.slots c.slot.inside.0 c.index-in-loop-at.result.now c.in_ok-known.ensures (omega arith) c.index-in-loop-at.ensures in
    let own = many_own c.args.due.now prefix c.as_slice-in-loop-at.result.now c.as_slice.result.now one.now c.slot.inside.0 its known
    before in
    record {
      none = none_more c.args.due.now told c.loop-at.at one c.loop-at-test.true c.index-told-at.is
          c.loop-at.invariant.none
          (λ many. denied c.is_too_many.ensures c.if-is_too_many.false (own.1 many));
      before = shares_more c.args.due.now told c.loop-at.at one c.loop-at-test.true c.index-told-at.is c.args.slots
          (map (λ (v : Vec ChargeEntry). v.items) c.loop-at.before.items) _ c.slot.inside.0 its
          c.loop-at.invariant.before c.in_ok-put.ensures;
    }

pub returns : goal.returns
returns c =
    surplus_none c.args.due.now (lent c.args.told.now) (length c.args.told.now)
    (omega (arith, length-map c.args.told.now (λ (b : Bor ChargeEntry). b.now)))
    (λ k low. c.loop-at.invariant.none k
    (omega (arith, low, length-map c.args.told.now (λ (b : Bor ChargeEntry). b.now))))
