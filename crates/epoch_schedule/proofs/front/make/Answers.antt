use Rattle.std.proofs.Common.{◌∙◌}
use Rattle.epoch_schedule.specs.Setups.{bounds_of}
use Rattle.epoch_schedule.specs.Worlds.{world_of}
use Rattle.epoch_schedule.proofs.Admitted.{makes_halves}
use Rattle.epoch_schedule.proofs.front.make.Goals as goal

pub returns : goal.returns
returns c =
    makes_halves c.offer_data_front.result c.args.setup.now.rooms (bounds_of c.args.setup.now)
    (world_of c.args.numbers.now) (world_of c.set_control.new.numbers) (world_of c.offer_control_front.new.numbers)
    (world_of c.make_room.new.numbers) (world_of c.offer_data_front.new.numbers) c.args.slot
    c.in_ok-set_control.ensures c.in_ok-offer_control_front.ensures
    (c.in_ok-make_room.ensures ∙ c.in_ok-set_data.ensures) c.offer_data_front.ensures
