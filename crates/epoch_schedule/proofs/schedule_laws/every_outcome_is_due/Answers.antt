use Rattle.epoch_schedule.proofs.Due.{each_outcome_is_due}
use Rattle.epoch_schedule.proofs.schedule_laws.every_outcome_is_due.Goals as goal

pub returns : goal.returns
returns c = each_outcome_is_due
