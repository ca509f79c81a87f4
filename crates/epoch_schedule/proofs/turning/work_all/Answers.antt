use Rattle.std.proofs.Common.{[], refl, subst, sym, ◌∙◌}
use Rattle.epoch_schedule.specs.World.{World}
use Rattle.epoch_schedule.specs.ControlTurns.{work_all}
use Rattle.epoch_schedule.specs.Busy.{AreBusyBut}
use Rattle.epoch_schedule.specs.Worlds.{world_of}
use Rattle.epoch_schedule.proofs.Busying.{round_busy}
use Rattle.epoch_schedule.proofs.Kept.{on_ok}
use Rattle.epoch_schedule.proofs.Skipped.{works_none}
use Rattle.epoch_schedule.proofs.turning.work_all.Goals as goal

pub returns-clause-busy : goal.returns-clause-busy
returns-clause-busy c =
    on_ok c.work_round.result (λ is.
    subst (λ (w : World). AreBusyBut c.args.setup.now.rooms.room [] c.args.busy.now.items w) (sym is)
    (round_busy c.args.setup.now.rooms c.args.busy.now.items c.args.slice c.control_cursor-first.result
    c.control_count-count.result (world_of c.args.numbers.now) c.requires)) c.work_round.ensures

pub returns-then-is_orderly-clause-world : goal.returns-then-is_orderly-clause-world
returns-then-is_orderly-clause-world c =
    let world = world_of c.args.numbers.now in
    let all = work_all c.args.setup.now.rooms c.args.slice world in
    works_none c.args.busy.now.items c.args.setup.now.rooms c.args.slice all world
    (record { busy_so = c.requires; orderly = c.if-is_orderly.ensures; ahead = refl })
    (sym c.has_busy.ensures ∙ c.if-has_busy.false)
