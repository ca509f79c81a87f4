use Rattle.std.proofs.Common.{subst, sym, ap, ◌∙◌}
use Rattle.epoch_schedule.specs.World.{World}
use Rattle.epoch_schedule.specs.Front.{Done}
use Rattle.epoch_schedule.specs.Listed.{AreListed}
use Rattle.epoch_schedule.specs.Setups.{bounds_of}
use Rattle.epoch_schedule.specs.Worlds.{world_of}
use Rattle.epoch_schedule.proofs.Kept.{send_listed}
use Rattle.epoch_schedule.proofs.pumping.line_done.Goals as goal

pub returns-in_ok-outcome-in-Some-clause-done : goal.returns-in_ok-outcome-in-Some-clause-done
returns-in_ok-outcome-in-Some-clause-done c =
    c.in_ok-outcome-in-Some.ensures ∙ sym (c.in-Some.ensures c.args.setup.now.rooms (bounds_of c.args.setup.now))

pub returns-in_ok-outcome-in-Some-clause-listed : goal.returns-in_ok-outcome-in-Some-clause-listed
returns-in_ok-outcome-in-Some-clause-listed c =
    subst (λ (w : World). AreListed c.args.setup.now c.args.waiting.now w)
    (sym (ap (λ (done : Done). done.world) c.in_ok-outcome-in-Some.ensures))
    (send_listed c.args.setup.now c.args.waiting.now (world_of c.args.numbers.now) c.in-Some.slot c.requires)
