use Rattle.std.proofs.Common.{List, sym, subst, arith}
use Rattle.migration.specs.Sides.{IsSide}
use Rattle.migration.proofs.PlaceSteps.{new_side}
use Rattle.migration.specs.declared.place.ControlPlace.{ControlPlace}
use Rattle.std.specs.Prelude.{Option, ℕ}
use Rattle.migration.proofs.side.Side.new.Goals as goal

pub invariant_of-result : goal.invariant_of-result
invariant_of-result g c = record {
  laid = subst (λ (p : List (Option (ControlPlace g.row.H.Denot)) × List g.row.H.Denot × List ℕ × List ℕ).
      IsSide g.H.Traveller.name g.H.Traveller.slot_of p.0 p.1 c.args.desks.items p.2 p.3 0 0)
      (λ i. (
        sym c.new.ensures.items i,
        sym c.new-2.ensures.items i,
        sym c.new-3.ensures.items i,
        sym c.new-4.ensures.items i,
      ))
      (new_side g.H.Traveller.name g.H.Traveller.slot_of c.args.desks.items c.requires);
  aside_room = omega arith;
  waiting_room = omega arith;
  serving_room = omega arith;
}
