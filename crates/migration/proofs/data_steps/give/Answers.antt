use Rattle.std.proofs.Common.{rules, ◌≡◌, Some, length, sym, subst}
use Rattle.migration.specs.declared.data_place.DataPlace.{DataPlace}
use Rattle.migration.specs.DataKeeps.{IsReady}
use Rattle.migration.specs.DataPlaces.{Fits}
use Rattle.migration.specs.DataSteps.{Gave}
use Rattle.migration.proofs.DataTables.{gave_any}
use Rattle.migration.proofs.data_steps.give.Goals as goal

pub given-requires-clause-fits : goal.given-requires-clause-fits
given-requires-clause-fits g c = λ κs within.
    let was : c.args.place.now ≡ Some c.in-Some.here = search rules in
    subst (Fits (length c.args.desks.now.items) c.args.room) was c.requires.fits

pub given-requires-clause-ready : goal.given-requires-clause-ready
given-requires-clause-ready g c = λ κs within.
    let was : c.args.place.now ≡ Some c.in-Some.here = search rules in
    subst (λ p. IsReady (λ half. g.H.DataTraveller.slot_at (g.H.DataTraveller.name half)) g.H.DataTraveller.item_slot c.args.slot p
    c.args.desks.now.items) was c.requires.ready

pub returns : goal.returns
returns g c =
    let slot : g.row.H.Denot → _ = λ half. g.H.DataTraveller.slot_at (g.H.DataTraveller.name half) in
    let was : c.args.place.now ≡ Some c.in-Some.here = search rules in
    let ready = subst (λ p. IsReady slot g.H.DataTraveller.item_slot c.args.slot p c.args.desks.now.items) was
    c.requires.ready in
    let fits = subst (Fits (length c.args.desks.now.items) c.args.room) was c.requires.fits in
    let after : DataPlace _ _ = c.given.new.place in
    subst (λ p. Gave slot g.H.DataTraveller.item_slot g.H.DataTraveller.handled c.args.slot c.args.room c.args.item
    c.given.result p (Some after) c.args.desks.now.items
    c.given.new.desks.items) (sym was)
    (gave_any slot g.H.DataTraveller.item_slot g.H.DataTraveller.handled c.args.slot c.in-Some.here after c.args.desks.now.items
    c.given.new.desks.items ready
    c.args.room c.args.item c.given.result c.requires.own fits c.given.ensures.same.0
    c.given.ensures.same.1 c.given.ensures.accepted c.given.ensures.told
    c.given.ensures.parked c.given.ensures.placed)
