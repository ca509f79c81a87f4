use Rattle.std.proofs.Common.{rules, ◌≡◌, Some, refl, sym, subst}
use Rattle.migration.specs.declared.data_place.DataPlace.{DataPlace}
use Rattle.migration.specs.DataSteps.{Welcomes}
use Rattle.migration.proofs.DataTables.{homed_place}
use Rattle.migration.proofs.data_steps.welcome.Goals as goal

pub returns : goal.returns
returns g c =
    let was : c.args.place.now ≡ Some c.in-Some.place_was = search rules in
    let before = c.in-Some.place_was in
    let after : DataPlace _ _ = record {
      moved = before.moved;
      state = c.homed-state.result.0;
      queue =
          before.queue;
      admitted = before.admitted;
      accepted = before.accepted;
    } in
    subst (λ p. Welcomes c.args.half c.args.slice p (Some after) c.homed-state.result.1) (sym was)
    (homed_place c.args.half c.args.slice before after c.homed-state.result.1 refl refl refl refl refl
    c.homed-state.ensures)
