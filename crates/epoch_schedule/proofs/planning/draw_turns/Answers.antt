use Rattle.std.proofs.Common.{rules, ◌≡◌, ◌*◌}
use Rattle.epoch_schedule.specs.Turns.{drawn_of}
use Rattle.epoch_schedule.specs.Worlds.{world_of}
use Rattle.epoch_schedule.proofs.Epochs.{drawing_more}
use Rattle.epoch_schedule.proofs.planning.draw_turns.Goals as goal

pub loop-preserved : goal.loop-preserved
loop-preserved c =
    let worker_is : c.drawn-worker.result ≡ drawn_of (2 * c.args.slices) c.next_state-behind.result = search rules in
    record {
      drawing = drawing_more c.args.setup.now.rooms (2 * c.args.slices) c.args.count (world_of c.args.numbers.now)
          (world_of c.loop.numbers) _ c.args.state c.loop.behind _ _ c.loop.counter (search rules) c.next_state-behind.ensures
          worker_is c.in_ok-turn.ensures.world c.loop.invariant.drawing;
      listed = c.in_ok-turn.ensures.listed;
    }
