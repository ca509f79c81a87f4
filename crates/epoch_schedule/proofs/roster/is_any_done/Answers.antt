use Rattle.std.proofs.Common.{[]}
use Rattle.epoch_schedule.proofs.Order.{any_done}
use Rattle.epoch_schedule.proofs.roster.is_any_done.Goals as goal

pub returns : goal.returns
returns c =
    any_done (record { slots = c.args.slots.now; controls = []; datas = [] }) c.args.halves.now c.first_done.result
    c.first_done.ensures.first c.first_done.ensures.place
