use Rattle.std.proofs.Common.{refl}
use Rattle.balance_plan.specs.Plan.{plan_of}
use Rattle.balance_plan.specs.Steps.{step_of}
use Rattle.balance_plan.proofs.plan_laws.worked_rows.Goals as goal

pub returns-clause-three_on_one_slice : goal.returns-clause-three_on_one_slice
unfolding plan_of step_of
returns-clause-three_on_one_slice c = refl

pub returns-clause-one_heavy_slot : goal.returns-clause-one_heavy_slot
unfolding plan_of step_of
returns-clause-one_heavy_slot c = refl
