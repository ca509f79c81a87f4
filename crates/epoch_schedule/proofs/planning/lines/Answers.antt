use Rattle.std.proofs.Common.{rules}
use Rattle.epoch_schedule.specs.Setups.{bounds_of}
use Rattle.epoch_schedule.specs.Worlds.{world_of}
use Rattle.epoch_schedule.proofs.Epochs.{so_far_more}
use Rattle.epoch_schedule.proofs.planning.lines.Goals as goal

pub loop-ask-preserved : goal.loop-ask-preserved
loop-ask-preserved c = record {
  so_far = so_far_more c.args.setup.now.rooms (bounds_of c.args.setup.now) c.args.slices c.args.asks.now
      (world_of c.args.numbers.now) (world_of c.loop-ask.numbers) (world_of c.line.new.numbers) c.args.turns.now
      c.loop-ask.turns c.line.new.turns c.loop-ask.outcomes.items c.push.new.self.items c.in_ok-outcome.outcome
      c.loop-ask.ask-index _ (search rules) c.in_ok-outcome.ensures.outcome c.in_ok-outcome.ensures.world
      c.in_ok-outcome.ensures.turns c.in_ok-push.ensures.items c.loop-ask.invariant.so_far;
  listed = c.in_ok-outcome.ensures.listed;
}
