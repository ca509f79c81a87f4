use Rattle.std.proofs.Common.{List, Option, length, ap, sym, subst, arith}
use Rattle.migration.specs.declared.data_place.DataPlace.{DataPlace}
use Rattle.migration.specs.declared.data_place.UnexpectedHalf.{UnexpectedHalf}
use Rattle.migration.specs.DataSides.{IsDataSide}
use Rattle.migration.proofs.DataSides.{new_side}
use Rattle.migration.proofs.DataCounted.{counts_none}
use Rattle.migration.proofs.DataListings.{lists_none}
use Rattle.migration.proofs.data_side.DataSide.new.Goals as goal

pub invariant_of-result : goal.invariant_of-result
invariant_of-result g c = record {
  laid = subst (λ (p : List (Option (DataPlace _ _)) × List (UnexpectedHalf _)). IsDataSide g.H.DataTraveller.name
      g.H.DataTraveller.slot_at g.H.DataTraveller.item_slot g.H.DataTraveller.handled p.0 p.1 c.args.desks.items c.args.room 0 0)
      (λ i. (sym c.new.ensures.items i, sym c.new-2.ensures.items i))
      (new_side g.H.DataTraveller.name g.H.DataTraveller.slot_at g.H.DataTraveller.item_slot g.H.DataTraveller.handled c.args.desks.items c.args.room
      c.requires.room.1 c.requires.new);
  aside_room = omega arith;
  listed = lists_none _ _ c.new.ensures.items c.new-3.ensures.items;
  due_room = let n = ap length c.new.ensures.items in omega arith;
  counted = counts_none _ _ c.new.ensures.items c.none.ensures.each c.none.ensures.all;
}
