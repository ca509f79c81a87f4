use Rattle.std.proofs.Common.{◌≡◌, length, sym, ◌∙◌, arith}
use Rattle.audit_core.specs.Matched.{entries_stood}
use Rattle.audit_core.specs.Dues.{StandsSo, entry_due}
use Rattle.audit_core.proofs.PieceOrder.{all_stand, next_differs, next_stands, no_break, stands_none}
use Rattle.audit_core.proofs.piece_order.differs.Goals as goal

pub loop-at-init : goal.loop-at-init
loop-at-init c = stands_none (entries_stood c.args.entries.now)

pub loop-at-preserved : goal.loop-at-preserved
loop-at-preserved c =
    next_stands (entries_stood c.args.entries.now) c.args.due.now c.loop-at.at c.index-due-at.result c.in_ok-found.found
    (omega arith) c.index-due-at.is (sym c.is_some.ensures ∙ c.if-is_some.false) c.loop-at.invariant
    c.in_ok-found.ensures.none

pub returns-then-is_some-clause-some : goal.returns-then-is_some-clause-some
returns-then-is_some-clause-some c =
    next_differs (entries_stood c.args.entries.now) c.args.due.now c.loop-at.at c.index-due-at.result c.in_ok-found.found
    (omega arith) c.index-due-at.is c.loop-at.invariant c.in_ok-found.ensures.some

pub returns-then-is_some-clause-none : goal.returns-then-is_some-clause-none
returns-then-is_some-clause-none c =
    no_break _ c.in_ok-found.found (sym c.is_some.ensures ∙ c.if-is_some.true)

pub returns-clause-none : goal.returns-clause-none
returns-clause-none c =
    all_stand (entries_stood c.args.entries.now) c.args.due.now c.loop-at.at (omega arith) (omega arith)
    c.loop-at.invariant
