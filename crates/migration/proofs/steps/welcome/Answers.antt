use Rattle.std.proofs.Common.{rules, ◌≡◌, ◌<◌, ◌∙◌, Option, None, length, get_or, subst, arith}
use Rattle.migration.specs.declared.place.ControlPlace.{ControlPlace}
use Rattle.migration.specs.Steps.{Welcomes}
use Rattle.migration.proofs.SideSteps.{same_default, welcomed_at}
use Rattle.migration.proofs.steps.welcome.Goals as goal

pub returns : goal.returns
returns g c =
    let within : c.args.slot < length c.args.places.now.items = let a = c.args.places.now.ok in omega arith in
    let there : c.index_mut.result.now ≡ get_or c.args.places.now.items c.args.slot c.index_mut.result.now =
    search rules in
    let is = there ∙ same_default c.args.places.now.items c.args.slot c.index_mut.result.now None within in
    welcomed_at c.args.half c.args.slot c.args.places.now.items _ c.received.new.place c.received.result within
    (search rules)
    (subst (λ (p : Option (ControlPlace g.row.H.Denot)). Welcomes c.args.half p c.received.new.place c.received.result) is
    c.received.ensures)
