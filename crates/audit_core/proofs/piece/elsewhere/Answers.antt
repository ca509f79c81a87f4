use Rattle.std.proofs.Common.{sym, ◌∙◌, arith}
use Rattle.audit_core.specs.Pieces.{is_elsewhere}
use Rattle.audit_core.proofs.PieceEntries.{first_there, none_all, none_next}
use Rattle.audit_core.proofs.piece.elsewhere.Goals as goal

pub returns-then-is_some : goal.returns-then-is_some
returns-then-is_some c =
    first_there (is_elsewhere c.args.before c.args.count) c.args.entries.now c.loop-stood.stood-index c.stood-item.result
    c.elsewhere_of-found.result c.loop-stood-test.true c.stood-item.is c.elsewhere_of-found.ensures c.loop-stood.invariant
    (sym c.is_some.ensures ∙ c.if-is_some.true)

pub loop-stood-preserved : goal.loop-stood-preserved
loop-stood-preserved c =
    none_next (is_elsewhere c.args.before c.args.count) c.args.entries.now c.loop-stood.stood-index c.stood-item.result
    c.elsewhere_of-found.result c.loop-stood-test.true c.stood-item.is c.elsewhere_of-found.ensures c.loop-stood.invariant
    (sym c.is_some.ensures ∙ c.if-is_some.false)

pub returns : goal.returns
returns c =
    none_all (is_elsewhere c.args.before c.args.count) c.args.entries.now c.loop-stood.stood-index (omega arith)
    c.loop-stood.invariant
