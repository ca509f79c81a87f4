use Rattle.std.proofs.Common.{rules, arith, ◌≡◌, ◌∙◌, Some, None, Option, refl, sym, subst}
use Rattle.migration.specs.declared.data_place.DataPlace.{DataPlace}
use Rattle.migration.specs.DataKeeps.{IsReady}
use Rattle.migration.specs.DataSteps.{Drained}
use Rattle.migration.proofs.DataTables.{drained_place, drained_none}
use Rattle.migration.proofs.data_steps.drain.Goals as goal

pub emptied-queue-requires-clause-fits : goal.emptied-queue-requires-clause-fits
emptied-queue-requires-clause-fits g c = λ κs within.
    let was : c.args.place.now ≡ Some c.in-Some.place_was = search rules in
    let ready = subst (λ p. IsReady (λ half. g.H.DataTraveller.slot_at (g.H.DataTraveller.name half)) g.H.DataTraveller.item_slot c.args.slot
    p c.args.desks.now.items) was c.requires.ready in
    let len = c.args.desks.now.ok in
    let a = ready.at in omega arith

pub emptied-queue-requires-clause-few : goal.emptied-queue-requires-clause-few
emptied-queue-requires-clause-few g c = λ κs within.
    let was : c.args.place.now ≡ Some c.in-Some.place_was = search rules in
    let ready = subst (λ p. IsReady (λ half. g.H.DataTraveller.slot_at (g.H.DataTraveller.name half)) g.H.DataTraveller.item_slot c.args.slot
    p c.args.desks.now.items) was c.requires.ready in
    let len = c.args.desks.now.ok in
    let a = ready.few in omega arith

pub emptied-queue-requires-clause-law : goal.emptied-queue-requires-clause-law
emptied-queue-requires-clause-law g c = λ κs within.
    let was : c.args.place.now ≡ Some c.in-Some.place_was = search rules in
    let ready = subst (λ p. IsReady (λ half. g.H.DataTraveller.slot_at (g.H.DataTraveller.name half)) g.H.DataTraveller.item_slot c.args.slot
    p c.args.desks.now.items) was c.requires.ready in
    let len = c.args.desks.now.ok in
    ready.law

pub emptied-queue-requires-clause-own : goal.emptied-queue-requires-clause-own
emptied-queue-requires-clause-own g c = λ κs within.
    let was : c.args.place.now ≡ Some c.in-Some.place_was = search rules in
    let ready = subst (λ p. IsReady (λ half. g.H.DataTraveller.slot_at (g.H.DataTraveller.name half)) g.H.DataTraveller.item_slot c.args.slot
    p c.args.desks.now.items) was c.requires.ready in
    let len = c.args.desks.now.ok in
    ready.own

pub returns : goal.returns
returns g c =
    let slot : g.row.H.Denot → _ = λ half. g.H.DataTraveller.slot_at (g.H.DataTraveller.name half) in
    let was : c.args.place.now ≡ Some c.in-Some.place_was = search rules in
    let ready = subst (λ p. IsReady slot g.H.DataTraveller.item_slot c.args.slot p c.args.desks.now.items) was
    c.requires.ready in
    let before = c.in-Some.place_was in
    let after : DataPlace _ _ = record {
      moved = before.moved;
      state = before.state;
      queue =
          c.emptied-queue.result;
      admitted = before.admitted;
      accepted = before.accepted;
    } in
    subst (λ p. Drained slot g.H.DataTraveller.item_slot g.H.DataTraveller.handled c.args.slot p (Some after) c.args.desks.now.items
    c.emptied-queue.new.desks.items) (sym was)
    (drained_place slot g.H.DataTraveller.item_slot g.H.DataTraveller.handled c.args.slot before after c.args.desks.now.items
    c.emptied-queue.new.desks.items ready
    refl refl refl refl c.emptied-queue.ensures.empties)

pub returns-in_default : goal.returns-in_default
returns-in_default g c =
    let slot : g.row.H.Denot → _ = λ half. g.H.DataTraveller.slot_at (g.H.DataTraveller.name half) in
    let was : c.args.place.now ≡ None = sym c.take.ensures.value ∙ c.in_default.is in
    subst (λ (p : Option (DataPlace _ _) × Option (DataPlace _ _)). Drained slot g.H.DataTraveller.item_slot g.H.DataTraveller.handled
    c.args.slot p.0 p.1 c.args.desks.now.items c.args.desks.now.items)
    (λ i. (sym was i, sym c.take.ensures.after i))
    (drained_none slot g.H.DataTraveller.item_slot g.H.DataTraveller.handled c.args.slot c.args.desks.now.items)
