use Rattle.std.proofs.Common.{sym, ◌∙◌}
use Rattle.epoch_schedule.proofs.Rosters.{copied_none, copied_some}
use Rattle.epoch_schedule.proofs.copying.copy_one.Goals as goal

pub returns-in-None : goal.returns-in-None
returns-in-None c =
    copied_none c.args.halves.now c.args.index c.args.fresh.now c.requires (sym c.in-None.ensures)

pub returns-in_ok-push-in-Some : goal.returns-in_ok-push-in-Some
returns-in_ok-push-in-Some c =
    c.in_ok-push-in-Some.ensures
    ∙ copied_some c.args.halves.now c.args.index c.args.fresh.now c.in-Some.half c.requires (sym c.in-Some.ensures)
