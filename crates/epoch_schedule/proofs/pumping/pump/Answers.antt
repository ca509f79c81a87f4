use Rattle.epoch_schedule.specs.Setups.{bounds_of}
use Rattle.epoch_schedule.specs.Worlds.{world_of}
use Rattle.epoch_schedule.proofs.Kept.{on_ok}
use Rattle.epoch_schedule.proofs.Passes.{pumped_by}
use Rattle.epoch_schedule.proofs.pumping.pump.Goals as goal

pub returns-clause-world : goal.returns-clause-world
returns-clause-world c =
    on_ok c.run_pass-3.result (pumped_by c.args.setup.now.rooms (bounds_of c.args.setup.now) (world_of c.args.numbers.now)
    _ _ _ _ _ c.in_ok-controls_home.ensures.world c.in_ok-run_pass.ensures.world c.in_ok-datas_home.ensures.world
    c.in_ok-run_pass-2.ensures.world) c.run_pass-3.ensures.world
