use Rattle.std.proofs.Common.{rules, ◌∙◌, length, ap, arith}
use Rattle.std.proofs.lemmas.List.{length-set}
use Rattle.migration.specs.DataPlaces.{accepted_at, moved_at}
use Rattle.migration.proofs.DataSides.{ready}
use Rattle.migration.proofs.DataPasses.{served_still, roll_same, lists_set}
use Rattle.migration.proofs.DataCounted.{counts_few, counts_step, counts_there, left_is, left_was}
use Rattle.migration.proofs.DataListings.{lists_among, listed_within}
use Rattle.migration.proofs.data_side.DataSide.serve.Goals as goal

pub serve_at-requires-clause-ready : goal.serve_at-requires-clause-ready
serve_at-requires-clause-ready g c = λ κs within.
    ready g.H.DataTraveller.name g.H.DataTraveller.slot_at g.H.DataTraveller.item_slot g.H.DataTraveller.handled c.args.self.now.places.items
    c.args.slot c.args.self.now.aside.items c.args.self.now.desks.items _ _ _ c.args.self.now.laid
    (listed_within c.args.self.now.places.items c.args.self.now.due.items c.args.slot c.args.self.now.listed
    c.requires)

pub serve_at-requires-clause-within : goal.serve_at-requires-clause-within
serve_at-requires-clause-within g c = λ κs within.
    listed_within c.args.self.now.places.items c.args.self.now.due.items c.args.slot c.args.self.now.listed c.requires

pub invariant_of-self : goal.invariant_of-self
invariant_of-self g c = record {
  laid = (served_still g.H.DataTraveller.name g.H.DataTraveller.slot_at g.H.DataTraveller.item_slot g.H.DataTraveller.handled _ _
      c.args.slot _ _ _ _ _ _ c.args.self.now.laid c.serve_at.ensures).side;
  aside_room = search rules;
  listed = let at = c.serve_at.ensures in lists_among _ _ at.0 c.args.slot c.args.self.now.due.items at.1 at.2
      c.args.self.now.listed c.requires;
  due_room =
      let at = c.serve_at.ensures in
      let n = ap length at.2 ∙ length-set c.args.self.now.places.items c.args.slot at.0 in
      let room = c.args.self.now.due_room in omega arith;
  counted =
      let at = c.serve_at.ensures in
      counts_step c.args.self.now.places.items c.serve_at.new.places.items at.0 c.args.slot c.left-was.result
      c.left-is.result _ _ at.1 at.2
      (left_was c.args.self.now.places.items c.deref.result.now c.args.slot c.left-was.result c.left-was.ensures
      (search rules))
      (left_is c.args.self.now.places.items c.serve_at.new.places.items c.deref-2.result.now at.0 c.args.slot
      c.left-is.result at.1 at.2 c.left-is.ensures (search rules))
      c.shift.ensures c.args.self.now.counted;
}

pub shift-requires-clause-few : goal.shift-requires-clause-few
shift-requires-clause-few g c = counts_few c.args.self.now.places.items c.args.self.now.leavers
    c.args.self.now.counted c.args.self.now.laid.short

pub shift-requires-clause-there : goal.shift-requires-clause-there
shift-requires-clause-there g c = counts_there c.args.self.now.places.items c.args.self.now.leavers c.args.slot
    c.left-was.result c.args.self.now.counted
    (left_was c.args.self.now.places.items c.deref.result.now c.args.slot c.left-was.result c.left-was.ensures
    (search rules))

pub returns-clause-roll : goal.returns-clause-roll
returns-clause-roll g c =
    let s = served_still g.H.DataTraveller.name g.H.DataTraveller.slot_at g.H.DataTraveller.item_slot g.H.DataTraveller.handled _ _
    c.args.slot _ _ _ _ _ _ c.args.self.now.laid c.serve_at.ensures in
    let at = c.serve_at.ensures in
    roll_same _ _ _ _ _ _ _ _ _ _ _ _ s.names (lists_set accepted_at _ _ at.0 c.args.slot at.2 at.3.accepted)
    (lists_set moved_at _ _ at.0 c.args.slot at.2 at.3.moved) s.lanes

pub returns-clause-homes : goal.returns-clause-homes
returns-clause-homes g c = (served_still g.H.DataTraveller.name g.H.DataTraveller.slot_at g.H.DataTraveller.item_slot g.H.DataTraveller.handled _ _
    c.args.slot _ _ _ _ _ _ c.args.self.now.laid c.serve_at.ensures).homes
