use Rattle.std.proofs.Common.{◌≡◌, ◌++◌, IfNone, IfOk, IfSome, length, map, refl, sym, ap, ◌∙◌, subst, arith}
use Rattle.audit_core.specs.Matched.{entries_stood}
use Rattle.audit_core.specs.Dues.{StandsSo, entry_due}
use Rattle.audit_core.specs.Why.{OrderBreak}
use Rattle.audit_core.proofs.PieceOrder.{dues_are, no_break, stands_len, unbroken_so}
use Rattle.audit_core.proofs.piece_order.order_broken.Goals as goal

pub returns-then-is_some-clause-some : goal.returns-then-is_some-clause-some
returns-then-is_some-clause-some c =
    let dues = dues_are c.args.lines.now c.args.effects.now c.args.rows.now c.args.opens.now _ _ _ _ _
    c.new-due.ensures.items
    c.in_ok-push_lines.ensures c.in_ok-push_effects.ensures c.in_ok-push_charges.ensures
    c.in_ok-push_charges-2.ensures in
    subst (λ a. IfSome c.in_ok-found.found (OrderBreak (entries_stood c.args.entries.now) a)) dues
    (subst (λ d. IfSome c.in_ok-found.found (OrderBreak (entries_stood c.args.entries.now) (map entry_due d)))
    c.as_slice.ensures.value c.in_ok-found.ensures.some)

pub returns-then-is_some-clause-none : goal.returns-then-is_some-clause-none
returns-then-is_some-clause-none c =
    no_break _ c.in_ok-found.found (sym c.is_some.ensures ∙ c.if-is_some.true)

pub returns-clause-some : goal.returns-clause-some
returns-clause-some c =
    let dues = dues_are c.args.lines.now c.args.effects.now c.args.rows.now c.args.opens.now _ _ _ _ _
    c.new-due.ensures.items
    c.in_ok-push_lines.ensures c.in_ok-push_effects.ensures c.in_ok-push_charges.ensures
    c.in_ok-push_charges-2.ensures in
    let so = unbroken_so _ c.in_ok-found.found (sym c.is_some.ensures ∙ c.if-is_some.false) c.in_ok-found.ensures.none in
    subst (λ a. IfOk c.surplus.result (λ found. IfSome found (OrderBreak (entries_stood c.args.entries.now) a))) dues
    (c.surplus.ensures.some _ (stands_len _ _ _ _ c.as_slice.ensures.value (omega (arith, c.len.ensures, c.push_charges-2.new.all.ok.0)) so))

pub returns-clause-none : goal.returns-clause-none
returns-clause-none c =
    let dues = dues_are c.args.lines.now c.args.effects.now c.args.rows.now c.args.opens.now _ _ _ _ _
    c.new-due.ensures.items
    c.in_ok-push_lines.ensures c.in_ok-push_effects.ensures c.in_ok-push_charges.ensures
    c.in_ok-push_charges-2.ensures in
    let so = unbroken_so _ c.in_ok-found.found (sym c.is_some.ensures ∙ c.if-is_some.false) c.in_ok-found.ensures.none in
    subst (λ a. IfOk c.surplus.result (λ found. IfNone found (entries_stood c.args.entries.now ≡ a))) dues
    (c.surplus.ensures.none _ (stands_len _ _ _ _ c.as_slice.ensures.value (omega (arith, c.len.ensures, c.push_charges-2.new.all.ok.0)) so))
