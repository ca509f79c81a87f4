use Rattle.std.proofs.Common.{[], ◌∷◌, subst, sym}
use Rattle.epoch_schedule.specs.World.{World}
use Rattle.epoch_schedule.specs.Listed.{AreListedBut}
use Rattle.epoch_schedule.specs.Worlds.{world_of}
use Rattle.epoch_schedule.proofs.Kept.{data_back_listed}
use Rattle.epoch_schedule.proofs.homes.data_at_home.Goals as goal

pub touch-requires : goal.touch-requires
touch-requires c =
    subst (λ (w : World). AreListedBut (c.args.slot ∷ []) c.args.setup.now c.args.waiting.now w)
    (sym c.in_ok-data_back.ensures)
    (data_back_listed c.args.setup.now c.args.waiting.now (world_of c.args.numbers.now) c.args.slot c.requires)
