use Rattle.std.proofs.Common.{◌+◌, ◌++◌, ◌∷◌, [], map, ap, sym, ◌∙◌, subst}
use Rattle.balance_plan.specs.Balance.{balance_of}
use Rattle.balance_plan.specs.Plans.{moves_at}
use Rattle.balance_plan.specs.Written.{given, lines_of, planned}
use Rattle.balance_plan.specs.Writing.{Stands}
use Rattle.balance_plan.proofs.WriterLemmas.{on_ok, written_fence, written_on}
use Rattle.balance_plan.proofs.writing.Writer.take.Goals as goal

pub returns-then-is_fence-clause-written : goal.returns-then-is_fence-clause-written
returns-then-is_fence-clause-written c = λ done has.
    let old = c.args.self.now in
    let line = c.args.line.now in
    let entries = c.args.told.now.entries.now in
    let gave = c.in_ok-give.ensures in
    let all = (balance_of old.slices old.most entries done).written ++ given line ∷ [] in
    let stands = gave.stands (balance_of old.slices old.most entries done).written has.stands in
    on_ok _ _ c.plan.result
    (λ behind. written_fence old c.plan.new.self entries done line has (c.plan.ensures.slices ∙ gave.slices)
    (c.plan.ensures.most ∙ gave.most) (c.plan.ensures.lines ∙ ap (λ n. n + 1) gave.lines)
    (sym c.is_fence.ensures ∙ c.if-is_fence.true) (c.plan.ensures.fence ∙ sym c.plan.ensures.lines)
    (subst (Stands c.plan.new.self)
    (λ i. all ++ map planned
    (moves_at (gave.slices i) (gave.most i) (gave.fence i) (sym c.plan.ensures.lines i) entries (lines_of all) line))
    behind))
    (c.plan.ensures.stands all (record { book = stands.book; bound = stands.bound; text = stands.text }))

pub returns-clause-written : goal.returns-clause-written
returns-clause-written c = λ done has.
    let old = c.args.self.now in
    let entries = c.args.told.now.entries.now in
    let gave = c.in_ok-give.ensures in
    let stands = gave.stands (balance_of old.slices old.most entries done).written has.stands in
    written_on old _ entries done c.args.line.now has gave.slices gave.most (ap (λ n. n + 1) gave.lines)
    (sym c.is_fence.ensures ∙ c.if-is_fence.false) gave.fence
    (record { book = stands.book; bound = stands.bound; text = stands.text })
