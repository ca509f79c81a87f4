use Rattle.std.proofs.Common.{rules, ◌≡◌, ◌∙◌, ◌^◌, Option, None, length, get_or, sym, subst}
use Rattle.migration.specs.declared.place.ControlPlace.{ControlPlace}
use Rattle.migration.specs.Places.{PlaceFits}
use Rattle.migration.specs.Steps.{PlaceServed}
use Rattle.migration.proofs.SideSteps.{same_default}
use Rattle.migration.proofs.steps.serve_at.Goals as goal

pub serve-requires-clause-fits : goal.serve-requires-clause-fits
serve-requires-clause-fits g c = λ κs within.
    let there : c.index_mut.result.now ≡ get_or c.args.places.now.items c.args.slot c.index_mut.result.now =
    search rules in
    let is = there ∙ same_default c.args.places.now.items c.args.slot c.index_mut.result.now None c.requires.within in
    subst (PlaceFits (length c.args.desks.now.items) (2 ^ 48)) (sym is) c.requires.fits

pub returns : goal.returns
returns g c =
    let there : c.index_mut.result.now ≡ get_or c.args.places.now.items c.args.slot c.index_mut.result.now =
    search rules in
    let is = there ∙ same_default c.args.places.now.items c.args.slot c.index_mut.result.now None
    c.requires.within in record {
      served = (
        c.serve.new.place,
        search rules,
        c.serve.ensures.waits,
        subst (λ (p : Option (ControlPlace g.row.H.Denot)). PlaceServed g.H.Traveller.name g.H.Traveller.hop_of
            c.args.slot p c.serve.new.place c.args.desks.now.items c.serve.new.desks.items) is
            c.serve.ensures.served,
      );
    }
