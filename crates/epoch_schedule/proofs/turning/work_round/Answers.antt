use Rattle.std.proofs.Common.{rules, ◌<◌}
use Rattle.epoch_schedule.specs.Worlds.{world_of}
use Rattle.epoch_schedule.proofs.Rounds.{round_on}
use Rattle.epoch_schedule.proofs.turning.work_round.Goals as goal

pub loop-left-preserved : goal.loop-left-preserved
loop-left-preserved c =
    let some : 0 < c.loop-left.left = search rules in
    round_on c.args.setup.now.rooms c.args.slice c.loop-left.left c.loop-left.place (world_of c.loop-left.numbers)
    _ _ c.slot_held-slot.result _ _ some c.slot_held-slot.ensures c.in_ok-worked.ensures.world
    c.in_ok-worked.ensures.worked c.next_place-place.ensures c.loop-left.invariant c.if-worked.false
