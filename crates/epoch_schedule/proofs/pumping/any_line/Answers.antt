use Rattle.std.proofs.Common.{subst, sym, ap}
use Rattle.epoch_schedule.specs.World.{World}
use Rattle.epoch_schedule.specs.Front.{Done}
use Rattle.epoch_schedule.specs.Lines.{asked}
use Rattle.epoch_schedule.specs.Listed.{AreListedBut, slots_asked}
use Rattle.epoch_schedule.specs.Worlds.{world_of}
use Rattle.epoch_schedule.proofs.Kept.{line_listed}
use Rattle.epoch_schedule.proofs.pumping.any_line.Goals as goal

pub touch_asked-requires : goal.touch_asked-requires
touch_asked-requires c =
    subst (λ (w : World). AreListedBut (slots_asked (asked c.args.ask)) c.args.setup.now c.args.waiting.now w)
    (sym (ap (λ (done : Done). done.world) c.in_ok-outcome.ensures))
    (line_listed c.args.setup.now c.args.waiting.now (world_of c.args.numbers.now) (asked c.args.ask) c.requires)
