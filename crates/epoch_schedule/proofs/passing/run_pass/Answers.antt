use Rattle.std.proofs.Common.{sym, ap, ◌∙◌}
use Rattle.epoch_schedule.specs.Setups.{bounds_of}
use Rattle.epoch_schedule.specs.Waiting.{waits_of}
use Rattle.epoch_schedule.specs.Worlds.{world_of}
use Rattle.epoch_schedule.specs.declared.waiting.PassWaits.{PassWaits}
use Rattle.epoch_schedule.proofs.Passes.{idle_passed}
use Rattle.epoch_schedule.proofs.passing.run_pass.Goals as goal

pub returns-then-is_idle-clause-world : goal.returns-then-is_idle-clause-world
returns-then-is_idle-clause-world c =
    idle_passed c.args.pass c.args.setup.now.rooms (bounds_of c.args.setup.now) (world_of c.args.numbers.now)
    (waits_of c.args.pass c.args.waiting.now) (ap (λ (w : PassWaits). w.visits) (sym c.of_pass.ensures) ∙ c.if-is_idle.ensures.visits)
    (ap (λ (w : PassWaits). w.lanes.items) (sym c.of_pass.ensures) ∙ c.if-is_idle.ensures.lanes) c.requires.within (c.requires.waits c.args.pass)
