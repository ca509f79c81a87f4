use Rattle.std.proofs.Common.{rules}
use Rattle.epoch_schedule.specs.Slots.{fresh_slot}
use Rattle.epoch_schedule.proofs.Grown.{grows_none, reached}
use Rattle.epoch_schedule.proofs.grow.reach_slot.Goals as goal

pub returns-then-slot-len : goal.returns-then-slot-len
returns-then-slot-len c =
    reached fresh_slot c.args.slots.now.items c.args.slots.now.items c.args.slot (search rules)
    (grows_none fresh_slot c.args.slots.now.items c.args.slot)
