use Rattle.std.proofs.Common.{rules, ◌≡◌, ◌∙◌, None, get_or, sym, ap, subst}
use Rattle.migration.specs.DataKeeps.{IsReady}
use Rattle.migration.specs.DataPlaces.{is_draining, place_at}
use Rattle.migration.specs.DataSteps.{Drained}
use Rattle.migration.proofs.DataSides.{same_default}
use Rattle.migration.proofs.DataUntouched.{drained_same}
use Rattle.migration.proofs.data_steps.drain_at.Goals as goal

pub drain-requires-clause-ready : goal.drain-requires-clause-ready
drain-requires-clause-ready g c = λ κs within.
    let there : c.index_mut.result.now ≡ get_or c.args.places.now.items c.args.slot c.index_mut.result.now = search
    rules in
    let is = there ∙ same_default c.args.places.now.items c.args.slot c.index_mut.result.now None c.requires.within in
    search (
      rules,
      subst (λ p. IsReady (λ half. g.H.DataTraveller.slot_at (g.H.DataTraveller.name half)) g.H.DataTraveller.item_slot
          c.args.slot p c.args.desks.now.items) (sym is) c.requires.ready,
    )

pub returns : goal.returns
returns g c =
    let there : c.index_mut.result.now ≡ get_or c.args.places.now.items c.args.slot c.index_mut.result.now = search
    rules in
    let is = there ∙ same_default c.args.places.now.items c.args.slot c.index_mut.result.now None c.requires.within
    in (
      c.drain.new.place,
      c.requires.within,
      search rules,
      subst (λ p. Drained (λ half. g.H.DataTraveller.slot_at (g.H.DataTraveller.name half)) g.H.DataTraveller.item_slot g.H.DataTraveller.handled
          c.args.slot p c.drain.new.place
          c.args.desks.now.items c.drain.new.desks.items) is c.drain.ensures,
    )

pub returns-then-not-is_draining : goal.returns-then-not-is_draining
returns-then-not-is_draining g c =
    drained_same (λ half. g.H.DataTraveller.slot_at (g.H.DataTraveller.name half)) g.H.DataTraveller.item_slot g.H.DataTraveller.handled c.args.slot
    c.args.desks.now.items c.args.places.now.items c.requires.within c.requires.ready
    (ap (λ l. is_draining (place_at l c.args.slot)) (sym c.deref.ensures.value) ∙ sym c.is_draining.ensures
    ∙ c.if-not-is_draining.true)
