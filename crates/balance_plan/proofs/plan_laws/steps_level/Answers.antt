use Rattle.balance_plan.proofs.Stepping.{levels}
use Rattle.balance_plan.proofs.plan_laws.steps_level.Goals as goal

pub returns : goal.returns
returns c = λ slices loads step rise below is. levels slices loads step rise below is
