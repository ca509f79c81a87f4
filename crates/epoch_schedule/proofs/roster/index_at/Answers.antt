use Rattle.std.proofs.Common.{arith}
use Rattle.epoch_schedule.proofs.Places.{next_on, still_on}
use Rattle.epoch_schedule.proofs.roster.index_at.Goals as goal
use Rattle.epoch_schedule.proofs.roster.index_at.Goals.{then-is_half+else-left-eq0, else-is_half}

pub loop-index-preserved : goal.loop-index-preserved
loop-index-preserved c =
    let so = c.loop-index.invariant in
    elim c.if-is_half.branch [
      | then-is_half+else-left-eq0 w ↦
          let next = next_on c.args.halves.now c.loop-index.index w.if-is_half.ensures.there in
          let one = w.left-is in
          let some = w.if-left-eq0.false in
          omega (arith, so, next, one, some)
      | else-is_half w ↦
          let next = still_on c.args.halves.now c.loop-index.index w.if-is_half.ensures.hole in
          let one = w.left-is in
          omega (arith, so, next, one)
    ]
