use Rattle.std.proofs.Common.{[], ◌∷◌}
use Rattle.epoch_schedule.specs.Worlds.{world_of}
use Rattle.epoch_schedule.proofs.Listing.{put_listed}
use Rattle.epoch_schedule.proofs.Kept.{on_ok}
use Rattle.epoch_schedule.proofs.passing.touch.Goals as goal

pub wake-requires : goal.wake-requires
wake-requires c = (c.args.slot ∷ [], c.requires.busy)

pub returns : goal.returns
returns c =
    on_ok c.wake.result (λ wakes.
    put_listed c.args.setup.now c.args.slot c.args.waiting.now
    (record c.args.waiting.now {
      controls = c.put.new.self;
      datas = c.put-2.new.self;
      queues = c.put-3.new.self;
      busy = c.wake.new.busy;
    })
    (world_of c.args.numbers.now) c.control_wants-control.result c.data_wants-data_half.result c.queue_wants-queue.result
    c.control_wants-control.ensures c.data_wants-data_half.ensures c.queue_wants-queue.ensures c.in_ok-put.ensures
    c.in_ok-put-2.ensures c.in_ok-put-3.ensures wakes c.requires) c.wake.ensures
