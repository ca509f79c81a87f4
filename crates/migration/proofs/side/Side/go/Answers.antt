use Rattle.std.proofs.Common.{rules, ◌≡◌, false, arith}
use Rattle.migration.specs.Places.{is_waiting_at, place_at}
use Rattle.migration.proofs.SideSteps.{place_fits}
use Rattle.migration.proofs.PlaceSteps.{admitted_within, waiting_fewer, gone_side, was_idle}
use Rattle.migration.proofs.side.Side.go.Goals as goal

pub go_at-newly-requires-clause-within : goal.go_at-newly-requires-clause-within
go_at-newly-requires-clause-within g c = λ κs within.
    admitted_within g.H.Traveller.name g.H.Traveller.slot_of c.args.self.now.places.items c.args.slot
    c.requires.admitted

pub go_at-newly-requires-clause-fits : goal.go_at-newly-requires-clause-fits
go_at-newly-requires-clause-fits g c = λ κs within.
    place_fits g.H.Traveller.name g.H.Traveller.slot_of c.args.self.now.places.items c.args.slot _ _ _ _ _ _
    c.args.self.now.laid
    (admitted_within g.H.Traveller.name g.H.Traveller.slot_of c.args.self.now.places.items c.args.slot
    c.requires.admitted)

pub note-requires : goal.note-requires
note-requires g c = λ newly.
    let idle : is_waiting_at (place_at c.args.self.now.places.items c.args.slot) ≡ false =
    was_idle _ _ _ newly c.go_at-newly.ensures.newly in
    let few = waiting_fewer g.H.Traveller.name g.H.Traveller.slot_of c.args.self.now.places.items c.args.slot _ _ _
    _ _ _ c.args.self.now.laid
    (admitted_within g.H.Traveller.name g.H.Traveller.slot_of c.args.self.now.places.items c.args.slot
    c.requires.admitted) c.requires.admitted idle in
    let a = c.args.self.now.waiting.ok in let r = c.args.self.now.waiting_room in omega arith

pub invariant_of-self : goal.invariant_of-self
invariant_of-self g c = record {
  laid = (gone_side g.H.Traveller.name g.H.Traveller.slot_of _ _ c.args.slot c.args.slice c.args.until
      c.go_at-newly.result _ _ _ _ c.note.new.waiting.items c.args.self.now.serving.items _ _ c.args.self.now.laid
      c.requires.slice c.requires.asked c.go_at-newly.ensures.moves c.go_at-newly.ensures.newly c.note.ensures.noted).0;
  aside_room = search rules;
  waiting_room = search rules;
  serving_room = search rules;
}

pub returns-clause-names : goal.returns-clause-names
returns-clause-names g c =
    (gone_side g.H.Traveller.name g.H.Traveller.slot_of _ _ c.args.slot c.args.slice c.args.until
    c.go_at-newly.result _ _ _ _ c.note.new.waiting.items c.args.self.now.serving.items _ _ c.args.self.now.laid
    c.requires.slice c.requires.asked c.go_at-newly.ensures.moves c.go_at-newly.ensures.newly c.note.ensures.noted).1

pub returns-clause-lanes : goal.returns-clause-lanes
returns-clause-lanes g c =
    (gone_side g.H.Traveller.name g.H.Traveller.slot_of _ _ c.args.slot c.args.slice c.args.until
    c.go_at-newly.result _ _ _ _ c.note.new.waiting.items c.args.self.now.serving.items _ _ c.args.self.now.laid
    c.requires.slice c.requires.asked c.go_at-newly.ensures.moves c.go_at-newly.ensures.newly c.note.ensures.noted).2
