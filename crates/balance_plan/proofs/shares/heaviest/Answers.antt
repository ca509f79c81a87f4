use Rattle.std.proofs.Common.{arith, subst}
use Rattle.balance_plan.specs.Shares.{IsHeaviest}
use Rattle.balance_plan.proofs.Choosing.{heaviest_goes, heaviest_may, none_goes}
use Rattle.balance_plan.proofs.shares.heaviest.Goals as goal

pub returns-then-most-eq0 : goal.returns-then-most-eq0
returns-then-most-eq0 c =
    let is = subst (λ n. IsHeaviest c.args.from c.args.gap c.args.loads.now n c.loop-i.most c.loop-i.place)
    (omega arith) c.loop-i.invariant in
    record {
      goes = none_goes c.args.from c.args.gap c.loop-i.most c.loop-i.place c.args.loads.now is c.if-most-eq0.true;
      within = tt;
      may = tt;
    }

pub returns-else-most-eq0 : goal.returns-else-most-eq0
returns-else-most-eq0 c =
    let is = subst (λ n. IsHeaviest c.args.from c.args.gap c.args.loads.now n c.loop-i.most c.loop-i.place)
    (omega arith) c.loop-i.invariant in
    record {
      goes = λ none. heaviest_goes c.args.from c.args.gap c.loop-i.most c.loop-i.place c.args.loads.now is none (omega arith);
      within = omega (arith, is.within (omega arith));
      may = λ none. heaviest_may c.args.from c.args.gap c.loop-i.most c.loop-i.place c.args.loads.now is none (omega arith);
    }
