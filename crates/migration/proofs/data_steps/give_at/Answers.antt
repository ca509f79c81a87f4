use Rattle.std.proofs.Common.{rules, ◌≡◌, ◌∙◌, None, length, get_or, sym, ap, subst}
use Rattle.migration.specs.DataPlaces.{is_admitted, Fits}
use Rattle.migration.specs.DataKeeps.{IsReady}
use Rattle.migration.specs.DataSteps.{Gave}
use Rattle.migration.proofs.DataSides.{same_default}
use Rattle.migration.proofs.data_steps.give_at.Goals as goal

pub give-requires-clause-admitted : goal.give-requires-clause-admitted
give-requires-clause-admitted g c = λ κs within.
    let there : c.index_mut.result.now ≡ get_or c.args.places.now.items c.args.slot c.index_mut.result.now = search
    rules in
    let is = there ∙ same_default c.args.places.now.items c.args.slot c.index_mut.result.now None c.requires.within in
    ap is_admitted is ∙ c.requires.admitted

pub give-requires-clause-fits : goal.give-requires-clause-fits
give-requires-clause-fits g c = λ κs within.
    let there : c.index_mut.result.now ≡ get_or c.args.places.now.items c.args.slot c.index_mut.result.now = search
    rules in
    let is = there ∙ same_default c.args.places.now.items c.args.slot c.index_mut.result.now None c.requires.within in
    subst (Fits (length c.args.desks.now.items) c.args.room) (sym is) c.requires.fits

pub give-requires-clause-ready : goal.give-requires-clause-ready
give-requires-clause-ready g c = λ κs within.
    let there : c.index_mut.result.now ≡ get_or c.args.places.now.items c.args.slot c.index_mut.result.now = search
    rules in
    let is = there ∙ same_default c.args.places.now.items c.args.slot c.index_mut.result.now None c.requires.within in
    subst (λ p. IsReady (λ half. g.H.DataTraveller.slot_at (g.H.DataTraveller.name half)) g.H.DataTraveller.item_slot c.args.slot p
    c.args.desks.now.items) (sym is) c.requires.ready

pub returns : goal.returns
returns g c =
    let there : c.index_mut.result.now ≡ get_or c.args.places.now.items c.args.slot c.index_mut.result.now = search
    rules in
    let is = there ∙ same_default c.args.places.now.items c.args.slot c.index_mut.result.now None c.requires.within
    in (
      c.give.new.place,
      c.requires.within,
      search rules,
      subst (λ p. Gave (λ half. g.H.DataTraveller.slot_at (g.H.DataTraveller.name half)) g.H.DataTraveller.item_slot g.H.DataTraveller.handled
          c.args.slot c.args.room c.args.item c.give.result p c.give.new.place
          c.args.desks.now.items c.give.new.desks.items) is c.give.ensures,
    )
