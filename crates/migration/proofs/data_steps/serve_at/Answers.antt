use Rattle.std.proofs.Common.{rules, ◌≡◌, ◌∙◌, None, is_some, get_or, sym, ap, subst}
use Rattle.migration.specs.DataKeeps.{IsReady}
use Rattle.migration.specs.DataPlaces.{waits_at, place_at}
use Rattle.migration.specs.DataSteps.{Served}
use Rattle.migration.proofs.DataSides.{same_default}
use Rattle.migration.proofs.DataUntouched.{served_same}
use Rattle.migration.proofs.data_steps.serve_at.Goals as goal

pub serve-requires-clause-ready : goal.serve-requires-clause-ready
serve-requires-clause-ready g c = λ κs within.
    let there : c.index_mut.result.now ≡ get_or c.args.places.now.items c.args.slot c.index_mut.result.now = search
    rules in
    let is = there ∙ same_default c.args.places.now.items c.args.slot c.index_mut.result.now None c.requires.within in
    search (
      rules,
      subst (λ p. IsReady (λ half. g.H.DataTraveller.slot_at (g.H.DataTraveller.name half)) g.H.DataTraveller.item_slot
          c.args.slot p c.args.desks.now.items) (sym is) c.requires.ready,
    )

pub returns : goal.returns
returns g c =
    let there : c.index_mut.result.now ≡ get_or c.args.places.now.items c.args.slot c.index_mut.result.now = search
    rules in
    let is = there ∙ same_default c.args.places.now.items c.args.slot c.index_mut.result.now None c.requires.within
    in (
      c.serve.new.place,
      c.requires.within,
      search rules,
      subst (λ p. Served (λ half. g.H.DataTraveller.slot_at (g.H.DataTraveller.name half)) g.H.DataTraveller.item_slot g.H.DataTraveller.handled
          c.args.slot p c.serve.new.place
          c.args.desks.now.items c.serve.new.desks.items) is c.serve.ensures,
    )

pub returns-then-not-is_waiting : goal.returns-then-not-is_waiting
returns-then-not-is_waiting g c =
    served_same (λ half. g.H.DataTraveller.slot_at (g.H.DataTraveller.name half)) g.H.DataTraveller.item_slot g.H.DataTraveller.handled c.args.slot
    c.args.desks.now.items c.args.places.now.items c.requires.within c.requires.ready
    (ap (λ l. is_some (waits_at (place_at l c.args.slot))) (sym c.deref.ensures.value) ∙ sym c.is_waiting.ensures
    ∙ c.if-not-is_waiting.true)
