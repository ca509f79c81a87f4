use Rattle.std.proofs.Common.{ℕ, ◌<◌, None, vec_capacity, refl, sym, ap, ◌∙◌, subst, arith}
use Rattle.migration.specs.Places.{name_at, place_at}
use Rattle.migration.specs.Steps.{Admits}
use Rattle.front_core.specs.Sides.{both_of}
use Rattle.front_core.proofs.SidesAdmitting.{admitted}
use Rattle.front_core.proofs.Listed.{lists_admitted, named_none, room_admits}
use Rattle.front_core.proofs.both.BothSides.admit.Goals as goal

pub returns : goal.returns
returns g c =
    admitted g.H.Traveller.name g.F.DataTraveller.name g.H.Traveller.hop_of
    (both_of c.args.self.now.controls c.args.self.now.datas) (both_of c.admit.new.self c.admit-2.new.self)
    (g.F.DataTraveller.slot_at (g.F.DataTraveller.name c.args.data_half)) c.args.slice c.args.moved c.args.control c.args.data_half
    c.requires.may.no_data
    (subst (λ slot. Admits g.H.Traveller.name g.H.Traveller.hop_of slot c.args.slice 0 c.args.control
    c.args.self.now.controls.places.items c.admit.new.self.places.items c.args.self.now.controls.desks.items
    c.admit.new.self.desks.items) c.requires.one c.in-Ok.ensures.ok)
    c.admit.ensures.lanes c.in-Ok.ensures.ok_asked c.in-Ok-admit.ensures.ok c.admit-2.ensures.lanes c.admit-2.ensures.room
    c.in-Ok-admit.ensures.ok_asked

pub list-requires : goal.list-requires
list-requires g c = λ joins.
    let own = c.widen.new.items.ok in
    let low : c.slot-slot.result < vec_capacity c.widen.new.items =
    omega (arith, c.in_ok-widen.ensures.wide, c.slot.view_is) in
    let more = room_admits c.args.self.now.controls.places.items c.args.self.now.moving.items c.widen.new.items.items _ _
    c.slot-slot.result c.args.self.now.listed c.widen.ensures.items c.widen.ensures.kept low
    (named_none g.H.Traveller.name g.H.Traveller.hop_of
    (place_at c.args.self.now.controls.places.items c.slot-slot.result) None
    (sym (ap (λ (s : ℕ). name_at g.H.Traveller.name (place_at c.args.self.now.controls.places.items s))
    (c.slot-slot.ensures ∙ c.requires.one) ∙ c.requires.may.no_control)) refl) in
    omega (arith, own, more)

pub invariant_of-self-2 : goal.invariant_of-self-2
invariant_of-self-2 g c = record {
  listed =
      let low : c.slot-slot.result < vec_capacity c.widen.new.items =
      omega (arith, c.in_ok-widen.ensures.wide, c.slot.view_is) in
      lists_admitted g.H.Traveller.name g.H.Traveller.hop_of c.args.self.now.controls.places.items
      c.admit.new.self.places.items c.args.self.now.moving.items c.widen.new.items.items c.list.new.moving.items _ _ _
      c.slot-slot.result c.args.slice c.settled-placed.result c.args.control c.args.self.now.controls.desks.items
      c.admit.new.self.desks.items c.args.self.now.listed
      (named_none g.H.Traveller.name g.H.Traveller.hop_of
      (place_at c.args.self.now.controls.places.items c.slot-slot.result) None
      (sym (ap (λ (s : ℕ). name_at g.H.Traveller.name (place_at c.args.self.now.controls.places.items s))
      (c.slot-slot.ensures ∙ c.requires.one) ∙ c.requires.may.no_control)) refl)
      (subst (λ (s : ℕ). Admits g.H.Traveller.name g.H.Traveller.hop_of s c.args.slice 0 c.args.control
      c.args.self.now.controls.places.items c.admit.new.self.places.items c.args.self.now.controls.desks.items
      c.admit.new.self.desks.items) (sym c.slot-slot.ensures) c.in-Ok.ensures.ok)
      c.settled-placed.ensures c.widen.ensures.items c.list.ensures.items c.widen.ensures.kept low c.list.ensures.room;
}
