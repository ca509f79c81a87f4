use Rattle.std.proofs.Common.{rules, arith, ◌≡◌, Some, refl, sym, subst}
use Rattle.migration.specs.declared.data_place.DataPlace.{DataPlace}
use Rattle.migration.specs.DataKeeps.{IsReady}
use Rattle.migration.specs.DataSteps.{Served}
use Rattle.migration.proofs.DataTables.{served_place}
use Rattle.migration.proofs.data_steps.serve.Goals as goal

pub served-state-requires-clause-fits : goal.served-state-requires-clause-fits
served-state-requires-clause-fits g c = λ κs within.
    let was : c.args.place.now ≡ Some c.in-Some.place_was = search rules in
    let ready = subst (λ p. IsReady (λ half. g.H.DataTraveller.slot_at (g.H.DataTraveller.name half)) g.H.DataTraveller.item_slot c.args.slot
    p c.args.desks.now.items) was c.requires.ready in
    let len = c.args.desks.now.ok in
    ((let a = ready.at in omega arith), (let a = ready.to in omega arith))

pub served-state-requires-clause-few : goal.served-state-requires-clause-few
served-state-requires-clause-few g c = λ κs within.
    let was : c.args.place.now ≡ Some c.in-Some.place_was = search rules in
    let ready = subst (λ p. IsReady (λ half. g.H.DataTraveller.slot_at (g.H.DataTraveller.name half)) g.H.DataTraveller.item_slot c.args.slot
    p c.args.desks.now.items) was c.requires.ready in
    let len = c.args.desks.now.ok in
    let a = ready.few in omega arith

pub served-state-requires-clause-law : goal.served-state-requires-clause-law
served-state-requires-clause-law g c = λ κs within.
    let was : c.args.place.now ≡ Some c.in-Some.place_was = search rules in
    let ready = subst (λ p. IsReady (λ half. g.H.DataTraveller.slot_at (g.H.DataTraveller.name half)) g.H.DataTraveller.item_slot c.args.slot
    p c.args.desks.now.items) was c.requires.ready in
    let len = c.args.desks.now.ok in
    ready.law

pub returns : goal.returns
returns g c =
    let slot : g.row.H.Denot → _ = λ half. g.H.DataTraveller.slot_at (g.H.DataTraveller.name half) in
    let was : c.args.place.now ≡ Some c.in-Some.place_was = search rules in
    let ready = subst (λ p. IsReady slot g.H.DataTraveller.item_slot c.args.slot p c.args.desks.now.items) was
    c.requires.ready in
    let before = c.in-Some.place_was in
    let after : DataPlace _ _ = record {
      moved = before.moved;
      state = c.served-state.result;
      queue = before.queue;
      admitted = before.admitted;
      accepted = before.accepted;
    } in
    subst (λ p. Served slot g.H.DataTraveller.item_slot g.H.DataTraveller.handled c.args.slot p (Some after) c.args.desks.now.items
    c.served-state.new.desks.items) (sym was)
    (served_place slot g.H.DataTraveller.item_slot g.H.DataTraveller.handled c.args.slot before after c.args.desks.now.items
    c.served-state.new.desks.items ready
    refl refl refl refl c.served-state.ensures.serves)
