use Rattle.std.proofs.Common.{subst, sym}
use Rattle.epoch_schedule.specs.World.{World}
use Rattle.epoch_schedule.specs.Listed.{AreListed}
use Rattle.epoch_schedule.specs.Worlds.{world_of}
use Rattle.epoch_schedule.proofs.Kept.{on_ok}
use Rattle.epoch_schedule.proofs.Listing.{control_home_listed}
use Rattle.epoch_schedule.proofs.homes.take_control_home.Goals as goal

pub returns-clause-listed : goal.returns-clause-listed
returns-clause-listed c =
    on_ok _ (λ is. subst (λ (w : World). AreListed c.args.setup.now c.loop-place.waiting w) (sym is)
    (control_home_listed c.args.setup.now c.loop-place.waiting (world_of c.loop-place.numbers) c.args.slice
    c.loop-place.invariant.listed)) c.clear_control_home.ensures
