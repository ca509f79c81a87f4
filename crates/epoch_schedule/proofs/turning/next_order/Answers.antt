use Rattle.epoch_schedule.specs.Worlds.{world_of}
use Rattle.epoch_schedule.proofs.Flowing.{worlds_busy}
use Rattle.epoch_schedule.proofs.turning.next_order.Goals as goal

pub obey-requires-clause-busy : goal.obey-requires-clause-busy
obey-requires-clause-busy c =
    worlds_busy c.args.setup.now.rooms.room c.args.busy.now.items (world_of c.args.numbers.now)
    (world_of c.take_next.new.numbers) c.take_next.ensures.slots c.take_next.ensures.controls c.requires.busy

pub returns-in-None-clause-busy : goal.returns-in-None-clause-busy
returns-in-None-clause-busy c =
    worlds_busy c.args.setup.now.rooms.room c.args.busy.now.items (world_of c.args.numbers.now)
    (world_of c.take_next.new.numbers) c.take_next.ensures.slots c.take_next.ensures.controls c.requires.busy
