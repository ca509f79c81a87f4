use Rattle.std.proofs.Common.{rules, ◌≡◌, ◌∙◌, length, ap, arith}
use Rattle.std.proofs.lemmas.List.{length-set}
use Rattle.migration.specs.DataPlaces.{accepted_at, is_due, place_at}
use Rattle.migration.proofs.DataSides.{ready, admitted_within}
use Rattle.migration.proofs.DataPasses.{moved_still, lists_set, at_new}
use Rattle.migration.proofs.DataRising.{room_more}
use Rattle.migration.proofs.DataCounted.{counts_few, counts_step, counts_there, left_is, left_was}
use Rattle.migration.proofs.DataListings.{lists_joined}
use Rattle.migration.proofs.data_side.DataSide.go.Goals as goal

pub go_at-requires-clause-within : goal.go_at-requires-clause-within
go_at-requires-clause-within g c = λ κs within. admitted_within g.H.DataTraveller.name g.H.DataTraveller.slot_at g.H.DataTraveller.item_slot
    g.H.DataTraveller.handled c.args.self.now.places.items c.args.slot c.requires.admitted

pub go_at-requires-clause-ready : goal.go_at-requires-clause-ready
go_at-requires-clause-ready g c = λ κs within.
    ready g.H.DataTraveller.name g.H.DataTraveller.slot_at g.H.DataTraveller.item_slot g.H.DataTraveller.handled c.args.self.now.places.items
    c.args.slot c.args.self.now.aside.items c.args.self.now.desks.items _ _ _ c.args.self.now.laid
    (admitted_within g.H.DataTraveller.name g.H.DataTraveller.slot_at g.H.DataTraveller.item_slot g.H.DataTraveller.handled
    c.args.self.now.places.items c.args.slot c.requires.admitted)

pub invariant_of-self : goal.invariant_of-self
invariant_of-self g c = record {
  laid = (moved_still g.H.DataTraveller.name g.H.DataTraveller.slot_at g.H.DataTraveller.item_slot g.H.DataTraveller.handled c.args.slice _ _
      c.args.slot _ _ _ _ _ _ c.args.self.now.laid c.requires.asked c.go_at.ensures).side;
  aside_room = search rules;
  listed =
      let at = c.go_at.ensures in
      let there : c.deref-3.result.now ≡ c.go_at.new.places.items = search rules in
      lists_joined c.args.self.now.places.items c.go_at.new.places.items at.0 c.args.slot c.is_due-joins.result
      c.args.self.now.due.items c.list.new.due.items at.1 at.2 c.args.self.now.listed
      (λ is. c.is_due-joins.ensures ∙ ap (λ l. is_due (place_at l c.args.slot)) there
      ∙ ap is_due (at_new c.args.self.now.places.items c.go_at.new.places.items at.0 c.args.slot at.1 at.2) ∙ is)
      (c.list.ensures.joins (length c.args.self.now.places.items) at.1 c.args.self.now.listed.rising);
  due_room =
      let at = c.go_at.ensures in
      let n = ap length at.2 ∙ length-set c.args.self.now.places.items c.args.slot at.0 in
      let room = c.args.self.now.due_room in let more = c.list.ensures.room in omega arith;
  counted =
      let at = c.go_at.ensures in
      counts_step c.args.self.now.places.items c.go_at.new.places.items at.0 c.args.slot c.left-was.result
      c.left-is.result _ _ at.1 at.2
      (left_was c.args.self.now.places.items c.deref.result.now c.args.slot c.left-was.result c.left-was.ensures
      (search rules))
      (left_is c.args.self.now.places.items c.go_at.new.places.items c.deref-2.result.now at.0 c.args.slot
      c.left-is.result at.1 at.2 c.left-is.ensures (search rules))
      c.shift.ensures c.args.self.now.counted;
}

pub shift-requires-clause-few : goal.shift-requires-clause-few
shift-requires-clause-few g c = counts_few c.args.self.now.places.items c.args.self.now.leavers
    c.args.self.now.counted c.args.self.now.laid.short

pub shift-requires-clause-there : goal.shift-requires-clause-there
shift-requires-clause-there g c = counts_there c.args.self.now.places.items c.args.self.now.leavers c.args.slot
    c.left-was.result c.args.self.now.counted
    (left_was c.args.self.now.places.items c.deref.result.now c.args.slot c.left-was.result c.left-was.ensures
    (search rules))

pub list-requires : goal.list-requires
list-requires g c = λ none.
    let more = room_more c.args.slot (length c.args.self.now.places.items) c.args.self.now.due.items
    c.args.self.now.listed.rising c.go_at.ensures.1 none in
    let room = c.args.self.now.due_room in let long = c.args.self.now.due.ok in omega arith

pub returns-clause-names : goal.returns-clause-names
returns-clause-names g c = (moved_still g.H.DataTraveller.name g.H.DataTraveller.slot_at g.H.DataTraveller.item_slot g.H.DataTraveller.handled
    c.args.slice _ _ c.args.slot _ _ _ _ _ _ c.args.self.now.laid c.requires.asked c.go_at.ensures).names

pub returns-clause-lanes : goal.returns-clause-lanes
returns-clause-lanes g c = (moved_still g.H.DataTraveller.name g.H.DataTraveller.slot_at g.H.DataTraveller.item_slot g.H.DataTraveller.handled
    c.args.slice _ _ c.args.slot _ _ _ _ _ _ c.args.self.now.laid c.requires.asked c.go_at.ensures).lanes

pub returns-clause-accepted : goal.returns-clause-accepted
returns-clause-accepted g c = let at = c.go_at.ensures in lists_set accepted_at _ _ at.0 c.args.slot at.2
    at.3.accepted
