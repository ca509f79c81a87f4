use Rattle.std.proofs.Common.{rules, ◌∙◌, length, ap, arith}
use Rattle.std.proofs.lemmas.List.{length-set}
use Rattle.migration.specs.DataPlaces.{accepted_at, leaves, moved_at}
use Rattle.migration.proofs.DataSides.{ready}
use Rattle.migration.proofs.DataPasses.{drained_still, roll_same, lists_set}
use Rattle.migration.proofs.DataCounted.{counts_same}
use Rattle.migration.proofs.DataListings.{lists_among, listed_within}
use Rattle.migration.proofs.data_side.DataSide.drain.Goals as goal

pub drain_at-requires-clause-ready : goal.drain_at-requires-clause-ready
drain_at-requires-clause-ready g c = λ κs within.
    ready g.H.DataTraveller.name g.H.DataTraveller.slot_at g.H.DataTraveller.item_slot g.H.DataTraveller.handled c.args.self.now.places.items
    c.args.slot c.args.self.now.aside.items c.args.self.now.desks.items _ _ _ c.args.self.now.laid
    (listed_within c.args.self.now.places.items c.args.self.now.due.items c.args.slot c.args.self.now.listed
    c.requires)

pub drain_at-requires-clause-within : goal.drain_at-requires-clause-within
drain_at-requires-clause-within g c = λ κs within.
    listed_within c.args.self.now.places.items c.args.self.now.due.items c.args.slot c.args.self.now.listed c.requires

pub invariant_of-self : goal.invariant_of-self
invariant_of-self g c = record {
  laid = (drained_still g.H.DataTraveller.name g.H.DataTraveller.slot_at g.H.DataTraveller.item_slot g.H.DataTraveller.handled _ _
      c.args.slot _ _ _ _ _ _ c.args.self.now.laid c.drain_at.ensures).side;
  aside_room = search rules;
  listed = let at = c.drain_at.ensures in lists_among _ _ at.0 c.args.slot c.args.self.now.due.items at.1 at.2
      c.args.self.now.listed c.requires;
  due_room =
      let at = c.drain_at.ensures in
      let n = ap length at.2 ∙ length-set c.args.self.now.places.items c.args.slot at.0 in
      let room = c.args.self.now.due_room in omega arith;
  counted = let at = c.drain_at.ensures in counts_same _ _ at.0 c.args.slot c.args.self.now.leavers at.1 at.2
      (ap leaves at.3.state) c.args.self.now.counted;
}

pub returns-clause-roll : goal.returns-clause-roll
returns-clause-roll g c =
    let s = drained_still g.H.DataTraveller.name g.H.DataTraveller.slot_at g.H.DataTraveller.item_slot g.H.DataTraveller.handled _ _
    c.args.slot _ _ _ _ _ _ c.args.self.now.laid c.drain_at.ensures in
    let at = c.drain_at.ensures in
    roll_same _ _ _ _ _ _ _ _ _ _ _ _ s.names (lists_set accepted_at _ _ at.0 c.args.slot at.2 at.3.accepted)
    (lists_set moved_at _ _ at.0 c.args.slot at.2 at.3.moved) s.lanes

pub returns-clause-homes : goal.returns-clause-homes
returns-clause-homes g c = (drained_still g.H.DataTraveller.name g.H.DataTraveller.slot_at g.H.DataTraveller.item_slot g.H.DataTraveller.handled _ _
    c.args.slot _ _ _ _ _ _ c.args.self.now.laid c.drain_at.ensures).homes
