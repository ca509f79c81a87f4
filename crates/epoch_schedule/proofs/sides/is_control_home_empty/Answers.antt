use Rattle.std.proofs.Common.{rules, ◌≡◌, ◌<◌, length, get_or, sym, ap, ◌∙◌}
use Rattle.std.proofs.lemmas.Bool.{OnTrue_from, eqb-true}
use Rattle.epoch_schedule.specs.World.{ControlNow, fresh_control, control_at}
use Rattle.epoch_schedule.specs.Worlds.{world_of}
use Rattle.epoch_schedule.proofs.Grown.{value-within}
use Rattle.epoch_schedule.proofs.Spared.{control_home_none}
use Rattle.epoch_schedule.proofs.sides.is_control_home_empty.Goals as goal

pub returns-then-slice-len : goal.returns-then-slice-len
returns-then-slice-len c =
    let world = world_of c.args.numbers.now in
    let within : c.args.slice < length world.controls = search rules in
    let worker = c.index-worker.result.now in
    let here : worker ≡ get_or world.controls c.args.slice worker = search rules in
    let own : worker ≡ control_at world c.args.slice =
    here ∙ value-within fresh_control worker world.controls c.args.slice within in
    OnTrue_from _ _ (λ is.
    control_home_none world c.args.slice within
    (ap (λ (w : ControlNow). length w.home) (sym own) ∙ sym (ap length c.home.ensures)
    ∙ eqb-true _ _ (sym c.is_empty.ensures ∙ is)))
