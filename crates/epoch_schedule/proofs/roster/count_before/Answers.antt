use Rattle.std.proofs.Common.{arith}
use Rattle.epoch_schedule.proofs.Places.{next_on, still_on}
use Rattle.epoch_schedule.proofs.roster.count_before.Goals as goal
use Rattle.epoch_schedule.proofs.roster.count_before.Goals.{then-is_half, else-is_half}

pub loop-at-preserved : goal.loop-at-preserved
loop-at-preserved c =
    let so = c.loop-at.invariant.count in
    let few = c.loop-at.invariant.few in
    elim c.if-is_half.branch [
      | then-is_half w ↦
          let next = next_on c.args.halves.now c.loop-at.at w.if-is_half.ensures.there in
          let one = w.count-is in
          record { count = omega (arith, so, next, one); few = omega (arith, few, one) }
      | else-is_half w ↦
          let next = still_on c.args.halves.now c.loop-at.at w.if-is_half.ensures.hole in
          let one = w.count-is in
          record { count = omega (arith, so, next, one); few = omega (arith, few, one) }
    ]
