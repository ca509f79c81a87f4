use Rattle.std.proofs.Common.{rules, ◌≡◌, ◌∙◌, ◌^◌, Option, None, length, get_or, sym, ap, subst}
use Rattle.std.proofs.lemmas.List.{get_or-set_same}
use Rattle.migration.specs.declared.place.ControlPlace.{ControlPlace}
use Rattle.migration.specs.Places.{PlaceFits, is_admitted, place_at}
use Rattle.migration.specs.Steps.{Moves, NewlyWaits}
use Rattle.migration.proofs.SideSteps.{same_default}
use Rattle.migration.proofs.steps.go_at.Goals as goal

pub go-requires-clause-fits : goal.go-requires-clause-fits
go-requires-clause-fits g c = λ κs within.
    let there : c.index_mut.result.now ≡ get_or c.args.places.now.items c.args.slot c.index_mut.result.now =
    search rules in
    let is = there ∙ same_default c.args.places.now.items c.args.slot c.index_mut.result.now None c.requires.within in
    subst (PlaceFits (length c.args.desks.now.items) (2 ^ 48)) (sym is) c.requires.fits

pub go-requires-clause-admitted : goal.go-requires-clause-admitted
go-requires-clause-admitted g c = λ κs within.
    let there : c.index_mut.result.now ≡ get_or c.args.places.now.items c.args.slot c.index_mut.result.now =
    search rules in
    let is = there ∙ same_default c.args.places.now.items c.args.slot c.index_mut.result.now None c.requires.within in
    ap is_admitted is ∙ c.requires.admitted

pub returns-clause-moves : goal.returns-clause-moves
returns-clause-moves g c =
    let there : c.index_mut.result.now ≡ get_or c.args.places.now.items c.args.slot c.index_mut.result.now =
    search rules in
    let is = there ∙ same_default c.args.places.now.items c.args.slot c.index_mut.result.now None c.requires.within in (
      c.go.new.place,
      c.requires.within,
      search rules,
      subst (λ (p : Option (ControlPlace g.row.H.Denot)). Moves c.args.slot c.args.slice c.args.until p c.go.new.place
          c.args.desks.now.items c.go.new.desks.items) is c.go.ensures.moves,
    )

pub returns-clause-newly : goal.returns-clause-newly
returns-clause-newly g c =
    let there : c.index_mut.result.now ≡ get_or c.args.places.now.items c.args.slot c.index_mut.result.now =
    search rules in
    let was = there ∙ same_default c.args.places.now.items c.args.slot c.index_mut.result.now None c.requires.within in
    let is : place_at _ c.args.slot ≡ c.go.new.place =
    ap (λ l. place_at l c.args.slot) (search rules) ∙ get_or-set_same c.args.places.now.items c.args.slot
    c.go.new.place None c.requires.within in
    subst (λ (p : Option (ControlPlace g.row.H.Denot) × Option (ControlPlace g.row.H.Denot)). NewlyWaits c.go.result p.0 p.1)
    (λ i. (was i, sym is i)) c.go.ensures.newly
