use Rattle.std.proofs.Common.{rules, arith, ◌≡◌, true, Some, refl, sym, subst}
use Rattle.migration.specs.declared.data_place.DataPlace.{DataPlace}
use Rattle.migration.specs.DataKeeps.{IsReady}
use Rattle.migration.specs.DataSteps.{Moved}
use Rattle.migration.proofs.DataTables.{moved_place}
use Rattle.migration.proofs.data_steps.go.Goals as goal

pub gone-state-requires-clause-fits : goal.gone-state-requires-clause-fits
gone-state-requires-clause-fits g c = λ κs within.
    let was : c.args.place.now ≡ Some c.in-Some.place_was = search rules in
    let ready = subst (λ p. IsReady (λ half. g.H.DataTraveller.slot_at (g.H.DataTraveller.name half)) g.H.DataTraveller.item_slot c.args.slot
    p c.args.desks.now.items) was c.requires.ready in
    let len = c.args.desks.now.ok in
    ((let a = ready.at in omega arith), (let a = ready.to in omega arith))

pub gone-state-requires-clause-few : goal.gone-state-requires-clause-few
gone-state-requires-clause-few g c = λ κs within.
    let was : c.args.place.now ≡ Some c.in-Some.place_was = search rules in
    let ready = subst (λ p. IsReady (λ half. g.H.DataTraveller.slot_at (g.H.DataTraveller.name half)) g.H.DataTraveller.item_slot c.args.slot
    p c.args.desks.now.items) was c.requires.ready in
    let len = c.args.desks.now.ok in
    let a = ready.few in omega arith

pub gone-state-requires-clause-law : goal.gone-state-requires-clause-law
gone-state-requires-clause-law g c = λ κs within.
    let was : c.args.place.now ≡ Some c.in-Some.place_was = search rules in
    let ready = subst (λ p. IsReady (λ half. g.H.DataTraveller.slot_at (g.H.DataTraveller.name half)) g.H.DataTraveller.item_slot c.args.slot
    p c.args.desks.now.items) was c.requires.ready in
    let len = c.args.desks.now.ok in
    ready.law

pub returns : goal.returns
returns g c =
    let slot : g.row.H.Denot → _ = λ half. g.H.DataTraveller.slot_at (g.H.DataTraveller.name half) in
    let was : c.args.place.now ≡ Some c.in-Some.place_was = search rules in
    let ready = subst (λ p. IsReady slot g.H.DataTraveller.item_slot c.args.slot p c.args.desks.now.items) was
    c.requires.ready in
    let before = c.in-Some.place_was in
    let after : DataPlace _ _ = record {
      moved = true;
      state = c.gone-state.result;
      queue = before.queue;
      admitted = before.admitted;
      accepted = before.accepted;
    } in
    subst (λ p. Moved slot g.H.DataTraveller.item_slot g.H.DataTraveller.handled c.args.slot c.args.slice p (Some after)
    c.args.desks.now.items c.gone-state.new.desks.items) (sym was)
    (moved_place slot g.H.DataTraveller.item_slot g.H.DataTraveller.handled c.args.slot before after c.args.desks.now.items
    c.gone-state.new.desks.items ready
    c.args.slice c.requires.slice refl refl refl refl c.gone-state.ensures.goes)
