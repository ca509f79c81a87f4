use Rattle.balance_plan.proofs.Stepping.{plan_is_of}
use Rattle.balance_plan.proofs.plan_laws.planned_moves_are_of_loads.Goals as goal

pub returns : goal.returns
returns c = λ slices most loads some. plan_is_of slices most loads some
