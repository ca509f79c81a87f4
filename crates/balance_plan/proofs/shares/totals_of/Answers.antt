use Rattle.std.proofs.Common.{take, ap, arith, length}
use Rattle.balance_plan.proofs.Totals.{fits, load_more, totals_more}
use Rattle.balance_plan.proofs.Moving.{length-loads_of}
use Rattle.balance_plan.proofs.shares.totals_of.Goals as goal

pub add-requires-clause-within : goal.add-requires-clause-within
add-requires-clause-within c =
    omega (
      arith,
      ap length c.loop-load.invariant,
      length-loads_of c.args.slices (take c.loop-load.load-index c.args.loads.now),
      load_more c.args.slices c.args.loads.now c.loop-load.load-index c.load-item.result c.loop-load-test.true
          c.load-item.is c.requires.below,
    )

pub add-requires-clause-fits : goal.add-requires-clause-fits
add-requires-clause-fits c =
    fits c.args.slices c.args.loads.now c.loop-load.load-index c.load-item.result c.loop-load.totals.items
    c.loop-load-test.true c.load-item.is c.requires.below c.loop-load.invariant c.requires.packets

pub loop-load-preserved : goal.loop-load-preserved
loop-load-preserved c =
    totals_more c.args.slices c.args.loads.now c.loop-load.load-index c.load-item.result c.loop-load.totals.items
    c.add.new.totals.items c.loop-load-test.true c.load-item.is c.requires.below c.loop-load.invariant c.add.ensures
