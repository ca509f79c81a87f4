use Rattle.std.proofs.Common.{◌≡◌, ◌+◌, ◌-◌, ◌++◌, ◌∷◌, [], None, Some, suc, length, sym, ap, ◌∙◌, subst, arith, append-nil, append_assoc}
use Rattle.balance_plan.specs.Plan.{plan_of}
use Rattle.balance_plan.specs.Shares.{HasShares}
use Rattle.balance_plan.specs.Steps.{step_of}
use Rattle.balance_plan.proofs.Moving.{length-loads_of}
use Rattle.balance_plan.proofs.Stepping.{plan_ends, plan_goes_on, plan_of_none}
use Rattle.balance_plan.proofs.planning.plan.Goals as goal

pub loop-init : goal.loop-init
loop-init c = record {
  shares = c.in_ok-shares.ensures.shares;
  many = ap length c.in_ok-shares.ensures.shares.totals ∙ length-loads_of c.args.slices c.in_ok-shares.shares.loads.items;
  planned =
      let none : c.new-planned.result.items ≡ [] = cc in
      let whole : c.args.most - 0 ≡ c.args.most = omega arith in
      (λ i. none i ++ plan_of c.args.slices (whole i) (c.in_ok-shares.ensures.loads i));
}

pub returns-in_default : goal.returns-in_default
returns-in_default c =
    let slices = c.args.slices in
    let loads = c.loop.shares.loads.items in
    let none : step_of slices loads ≡ None =
    sym (ap (λ n. step_of n loads) c.loop.invariant.many) ∙ sym c.in_default.ensures.step in
    sym (append-nil c.loop.planned.items)
    ∙ ap (λ p. c.loop.planned.items ++ p) (sym (plan_ends slices (c.args.most - c.loop.counter) loads none))
    ∙ c.loop.invariant.planned

pub loop-preserved : goal.loop-preserved
loop-preserved c =
    let slices = c.args.slices in
    let loads = c.loop.shares.loads.items in
    let left = c.args.most - (c.loop.counter + 1) in
    let some : step_of slices loads ≡ Some c.in-Some.next =
    sym (ap (λ n. step_of n loads) c.loop.invariant.many) ∙ sym c.in-Some.ensures.step in
    let one_more : c.args.most - c.loop.counter ≡ suc left = omega arith in
    record {
      shares = subst (HasShares c.step.new.self) c.loop.invariant.many c.in-Some.ensures.shares;
      many = c.in-Some.ensures.as_many ∙ c.loop.invariant.many;
      planned =
          ap (λ p. p ++ plan_of slices left c.step.new.self.loads.items) c.in_ok-push.ensures.items
          ∙ append_assoc c.loop.planned.items (c.in-Some.next ∷ [])
          (plan_of slices left c.step.new.self.loads.items)
          ∙ ap (λ ls. c.loop.planned.items ++ c.in-Some.next ∷ plan_of slices left ls) c.in-Some.ensures.moved
          ∙ ap (λ p. c.loop.planned.items ++ p) (sym (ap (λ n. plan_of slices n loads) one_more
          ∙ plan_goes_on slices left loads c.in-Some.next some))
          ∙ c.loop.invariant.planned;
    }

pub returns : goal.returns
returns c =
    let none : c.args.most - c.loop.counter ≡ 0 = omega arith in
    sym (append-nil c.loop.planned.items)
    ∙ ap (λ p. c.loop.planned.items ++ p) (sym (ap (λ n. plan_of c.args.slices n c.loop.shares.loads.items) none
    ∙ plan_of_none c.args.slices c.loop.shares.loads.items))
    ∙ c.loop.invariant.planned
