use Rattle.epoch_schedule.specs.declared.waiting.PassWaits.{PassWaits}
use Rattle.epoch_schedule.proofs.Wants.{left_visits, left_lanes}
use Rattle.epoch_schedule.proofs.waiting.PassWaits.leave_out.Goals as goal

pub returns-in-Nothing : goal.returns-in-Nothing
returns-in-Nothing c = λ kind t other stands. stands

pub returns-in-Visit : goal.returns-in-Visit
returns-in-Visit c = left_visits c.args.slot c.args.self.now c.remove.new.self c.remove.ensures

pub returns-in-Room : goal.returns-in-Room
returns-in-Room c = left_lanes c.args.slot c.args.self.now c.leave_in.new.lanes c.leave_in.ensures
