use Rattle.std.proofs.Common.{rules, ◌≡◌, ◌<◌, ◌∙◌, None, length, get_or, subst, sym, arith}
use Rattle.migration.specs.DataSteps.{Welcomes}
use Rattle.migration.proofs.DataSides.{same_default}
use Rattle.migration.proofs.DataTables.{welcomed_at}
use Rattle.migration.proofs.data_steps.welcome_at.Goals as goal

pub returns : goal.returns
returns g c =
    let within : c.args.slot < length c.args.places.now.items = let a = c.args.places.now.ok in omega arith in
    let there : c.index_mut.result.now ≡ get_or c.args.places.now.items c.args.slot c.index_mut.result.now = search
    rules in
    let is = there ∙ same_default c.args.places.now.items c.args.slot c.index_mut.result.now None within in
    welcomed_at c.args.half c.args.slice g.H.DataKind.slot_of_half c.args.slot c.args.aside.now
    c.args.places.now.items _ c.welcome.new.place c.welcome.result within
    (sym c.is_aside.ensures ∙ search rules) (search rules)
    (subst (λ p. Welcomes c.args.half c.args.slice p c.welcome.new.place c.welcome.result) is c.welcome.ensures)
