use Rattle.std.proofs.Common.{rules}
use Rattle.epoch_schedule.specs.World.{fresh_control}
use Rattle.epoch_schedule.proofs.Grown.{grows_none, reached}
use Rattle.epoch_schedule.proofs.grow.reach_control.Goals as goal

pub returns-then-slice-len : goal.returns-then-slice-len
returns-then-slice-len c =
    reached fresh_control c.args.controls.now.items c.args.controls.now.items c.args.slice (search rules)
    (grows_none fresh_control c.args.controls.now.items c.args.slice)
