use Rattle.std.proofs.Common.{arith}
use Rattle.migration.specs.Places.{place_at}
use Rattle.front_core.specs.Sides.{both_of}
use Rattle.front_core.proofs.SidesMoving.{control_admitted, moved}
use Rattle.front_core.proofs.Listed.{lists_moved, room_moved}
use Rattle.front_core.proofs.both.BothSides.go.Goals as goal

pub list-requires : goal.list-requires
list-requires g c = λ joins.
    let own = c.args.self.now.moving.ok in
    let low = room_moved c.args.self.now.controls.places.items c.args.self.now.moving.items _ c.args.slot c.settled-placed.result
    c.args.self.now.listed
    (control_admitted g.H.Traveller.name (place_at c.args.self.now.controls.places.items c.args.slot)
    c.requires.control_admitted) c.settled-placed.ensures joins in
    omega (arith, low, own)

pub invariant_of-self : goal.invariant_of-self
invariant_of-self g c = record {
  listed = lists_moved c.args.self.now.controls.places.items c.go.new.self.places.items c.args.self.now.moving.items
      c.list.new.moving.items _ _ c.args.slot c.args.slice c.args.until c.settled-placed.result
      c.args.self.now.controls.desks.items c.go.new.self.desks.items c.args.self.now.listed
      (control_admitted g.H.Traveller.name (place_at c.args.self.now.controls.places.items c.args.slot)
      c.requires.control_admitted) c.settled-placed.ensures c.list.ensures.items c.list.ensures.room c.go.ensures.moves;
}

pub returns : goal.returns
returns g c =
    moved g.H.Traveller.name g.F.DataTraveller.name (λ half. g.F.DataTraveller.slot_at (g.F.DataTraveller.name half)) g.F.DataTraveller.item_slot
    g.F.DataTraveller.handled (both_of c.args.self.now.controls c.args.self.now.datas) (both_of c.go.new.self c.go-2.new.self)
    c.args.slot c.args.slice c.args.until c.requires.data_admitted c.go.ensures.moves c.go.ensures.names
    c.go.ensures.lanes c.go.ensures.asked c.go-2.ensures.moves c.go-2.ensures.names c.go-2.ensures.accepted
    c.go-2.ensures.lanes c.go-2.ensures.asked c.go-2.ensures.room
