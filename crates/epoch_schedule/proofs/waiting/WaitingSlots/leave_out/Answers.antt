use Rattle.epoch_schedule.proofs.Wants.{left_controls, left_datas, left_queues}
use Rattle.epoch_schedule.proofs.waiting.WaitingSlots.leave_out.Goals as goal

pub returns-in-Controls : goal.returns-in-Controls
returns-in-Controls c = left_controls c.args.slot c.args.self.now c.leave_out.new.self c.leave_out.ensures

pub returns-in-Datas : goal.returns-in-Datas
returns-in-Datas c = left_datas c.args.slot c.args.self.now c.leave_out-in-Datas.new.self c.leave_out-in-Datas.ensures

pub returns-in-Queues : goal.returns-in-Queues
returns-in-Queues c = left_queues c.args.slot c.args.self.now c.leave_out-in-Queues.new.self c.leave_out-in-Queues.ensures
