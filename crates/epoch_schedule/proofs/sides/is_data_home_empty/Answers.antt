use Rattle.std.proofs.Common.{rules, ◌≡◌, ◌<◌, length, get_or, sym, ap, ◌∙◌}
use Rattle.std.proofs.lemmas.Bool.{OnTrue_from, eqb-true}
use Rattle.epoch_schedule.specs.World.{DataNow, fresh_data, data_at}
use Rattle.epoch_schedule.specs.Worlds.{world_of}
use Rattle.epoch_schedule.proofs.Grown.{value-within}
use Rattle.epoch_schedule.proofs.Spared.{data_home_none}
use Rattle.epoch_schedule.proofs.sides.is_data_home_empty.Goals as goal

pub returns-then-slice-len : goal.returns-then-slice-len
returns-then-slice-len c =
    let world = world_of c.args.numbers.now in
    let within : c.args.slice < length world.datas = search rules in
    let worker = c.index-worker.result.now in
    let here : worker ≡ get_or world.datas c.args.slice worker = search rules in
    let own : worker ≡ data_at world c.args.slice =
    here ∙ value-within fresh_data worker world.datas c.args.slice within in
    OnTrue_from _ _ (λ is.
    data_home_none world c.args.slice within
    (ap (λ (w : DataNow). length w.home) (sym own) ∙ sym (ap length c.home.ensures)
    ∙ eqb-true _ _ (sym c.is_empty.ensures ∙ is)))
