use Rattle.std.proofs.Common.{rules, ◌≡◌, Option, Some, refl, sym, subst}
use Rattle.migration.specs.declared.place.ControlPlace.{ControlPlace}
use Rattle.migration.specs.Steps.{PlaceServed}
use Rattle.migration.proofs.steps.serve.Goals as goal

pub returns-clause-served : goal.returns-clause-served
returns-clause-served g c =
    let was : c.args.place.now ≡ Some c.in-Some.place_was = search rules in
    let now : ControlPlace g.row.H.Denot = record {
      hop = c.in-Some.place_was.hop;
      state = c.served-state.result;
      admitted = c.in-Some.place_was.admitted;
    } in
    subst (λ (p : Option (ControlPlace g.row.H.Denot)). PlaceServed g.H.Traveller.name g.H.Traveller.hop_of c.args.slot p
    (Some now) c.args.desks.now.items c.served-state.new.desks.items) (sym was)
    (now, refl, refl, refl, c.served-state.ensures.serves)
