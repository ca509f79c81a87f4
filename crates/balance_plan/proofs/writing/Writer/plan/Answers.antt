use Rattle.std.proofs.Common.{◌≡◌, ◌++◌, map, ap, ◌∙◌, subst}
use Rattle.std.specs.Prelude.{OnOk}
use Rattle.balance_plan.specs.Plan.{plan_of}
use Rattle.balance_plan.specs.Plans.{loads_at, move_line}
use Rattle.balance_plan.specs.Written.{lines_of, planned}
use Rattle.balance_plan.specs.Writing.{Stands}
use Rattle.balance_plan.proofs.writing.Writer.plan.Goals as goal

pub returns-clause-stands : goal.returns-clause-stands
returns-clause-stands c = λ written stands.
    let fence = c.args.fence.now in
    let old = c.args.self.now in
    let due = loads_at old.slices c.args.before old.lines c.args.told.now.entries.now (lines_of written) in
    let steps : c.deref-2.result.now ≡ plan_of old.slices old.most due =
    c.deref-2.ensures.value ∙ c.in_ok-steps.ensures
    ∙ ap (plan_of old.slices old.most) (c.deref.ensures.value ∙ c.in_ok-loads.ensures.loads written stands) in
    subst (λ moves. OnOk c.push_moves.result (Stands c.push_moves.new.self (written ++ map planned moves)))
    (λ i. map (move_line fence (stands.book i)) (steps i)) (c.push_moves.ensures.stands written stands)
