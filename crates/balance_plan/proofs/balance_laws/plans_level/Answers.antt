use Rattle.balance_plan.proofs.LevelLemmas.{plan_levels}
use Rattle.balance_plan.proofs.balance_laws.plans_level.Goals as goal

pub returns : goal.returns
returns c = λ slices most done loads rise below. plan_levels slices most done loads rise below
