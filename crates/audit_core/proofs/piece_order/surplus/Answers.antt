use Rattle.std.proofs.Common.{◌≡◌, ◌∙◌, None, Some, ap, sym, arith}
use Rattle.audit_core.specs.Matched.{entries_stood}
use Rattle.audit_core.specs.Telling.{said_of, tells_said}
use Rattle.audit_core.specs.declared.report.Stood.{Stood}
use Rattle.audit_core.proofs.OrderLemmas.{no_more, one_more}
use Rattle.audit_core.proofs.OrderStood.{none_at}
use Rattle.audit_core.proofs.PieceOrder.{stood_at}
use Rattle.audit_core.proofs.TellLemmas.{tells_is}
use Rattle.audit_core.proofs.piece_order.surplus.Goals as goal

pub returns-then-count-entries-clause-none : goal.returns-then-count-entries-clause-none
returns-then-count-entries-clause-none c = λ asked so.
    no_more (entries_stood c.args.entries.now) asked c.args.count so (none_at c.args.entries.now c.args.count (omega arith))

pub returns-clause-some : goal.returns-clause-some
returns-clause-some c = λ asked so.
    one_more (entries_stood c.args.entries.now) asked c.args.count c.index-entries-count.result.entry
    c.in_ok-tells.field-0 so
    (stood_at c.args.entries.now c.args.count c.index-entries-count.result (omega arith) c.index-entries-count.is)
    (c.in_ok-tells.ensures ∙ (λ i. tells_said (Some (c.in_ok-said.ensures i)) None)
    ∙ ap (λ (s : Stood). tells_said (Some (said_of s.entry)) None) (sym c.index-entries-count.is)
    ∙ tells_is (Some c.index-entries-count.result.entry) None)
