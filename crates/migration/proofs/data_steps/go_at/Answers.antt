use Rattle.std.proofs.Common.{rules, ◌≡◌, ◌∙◌, None, get_or, sym, subst}
use Rattle.migration.specs.DataKeeps.{IsReady}
use Rattle.migration.specs.DataSteps.{Moved}
use Rattle.migration.proofs.DataSides.{same_default}
use Rattle.migration.proofs.data_steps.go_at.Goals as goal

pub go-requires-clause-ready : goal.go-requires-clause-ready
go-requires-clause-ready g c = λ κs within.
    let there : c.index_mut.result.now ≡ get_or c.args.places.now.items c.args.slot c.index_mut.result.now = search
    rules in
    let is = there ∙ same_default c.args.places.now.items c.args.slot c.index_mut.result.now None c.requires.within in
    subst (λ p. IsReady (λ half. g.H.DataTraveller.slot_at (g.H.DataTraveller.name half)) g.H.DataTraveller.item_slot c.args.slot p
    c.args.desks.now.items) (sym is) c.requires.ready

pub returns : goal.returns
returns g c =
    let there : c.index_mut.result.now ≡ get_or c.args.places.now.items c.args.slot c.index_mut.result.now = search
    rules in
    let is = there ∙ same_default c.args.places.now.items c.args.slot c.index_mut.result.now None c.requires.within
    in (
      c.go.new.place,
      c.requires.within,
      search rules,
      subst (λ p. Moved (λ half. g.H.DataTraveller.slot_at (g.H.DataTraveller.name half)) g.H.DataTraveller.item_slot g.H.DataTraveller.handled
          c.args.slot c.args.slice p c.go.new.place
          c.args.desks.now.items c.go.new.desks.items) is c.go.ensures,
    )
