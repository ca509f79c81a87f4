use Rattle.std.proofs.Common.{rules, ◌≡◌, Option, Some, refl, sym, subst}
use Rattle.migration.specs.declared.place.ControlPlace.{ControlPlace}
use Rattle.migration.specs.Steps.{Welcomes}
use Rattle.migration.proofs.StateSteps.{homed_place}
use Rattle.migration.proofs.steps.received.Goals as goal

pub returns : goal.returns
returns g c =
    let was : c.args.place.now ≡ Some c.in-Some.place_was = search rules in
    let now : ControlPlace g.row.H.Denot = record {
      hop = c.in-Some.place_was.hop;
      state = c.homed-state.result.0;
      admitted = c.in-Some.place_was.admitted;
    } in
    subst (λ (p : Option (ControlPlace g.row.H.Denot)). Welcomes c.args.half p (Some now) c.homed-state.result.1) (sym was)
    (homed_place c.args.half c.in-Some.place_was now c.homed-state.result.1 refl refl c.homed-state.ensures)
