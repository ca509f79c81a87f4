use Rattle.std.proofs.Common.{rules, refl, arith}
use Rattle.migration.proofs.SideSteps.{own_front, place_fits}
use Rattle.migration.proofs.PlaceSteps.{next_waits, waiting_within, waiting_few, served_side}
use Rattle.migration.proofs.Servings.{roll_same}
use Rattle.migration.proofs.Passes.{passes_served}
use Rattle.migration.proofs.side.Side.serve_next.Goals as goal

pub serve_at-waits-requires-clause-within : goal.serve_at-waits-requires-clause-within
serve_at-waits-requires-clause-within g c =
    λ κs within. waiting_within g.H.Traveller.name g.H.Traveller.slot_of c.args.self.now.places.items c.in-Some.slot
    (next_waits g.H.Traveller.name g.H.Traveller.slot_of c.args.self.now.places.items c.in-Some.slot _ _ _
    c.args.self.now.serving.items c.pop.new.self.items _ _ c.args.self.now.laid (search rules))

pub serve_at-waits-requires-clause-fits : goal.serve_at-waits-requires-clause-fits
serve_at-waits-requires-clause-fits g c = λ κs within.
    place_fits g.H.Traveller.name g.H.Traveller.slot_of c.args.self.now.places.items c.in-Some.slot _ _ _ _ _ _
    c.args.self.now.laid
    (waiting_within g.H.Traveller.name g.H.Traveller.slot_of c.args.self.now.places.items c.in-Some.slot
    (next_waits g.H.Traveller.name g.H.Traveller.slot_of c.args.self.now.places.items c.in-Some.slot _ _ _
    c.args.self.now.serving.items c.pop.new.self.items _ _ c.args.self.now.laid (search rules)))

pub note-requires : goal.note-requires
note-requires g c = λ waits.
    let few = waiting_few g.H.Traveller.name g.H.Traveller.slot_of _ _ _ _ _ _ _ c.args.self.now.laid in
    let a = c.args.self.now.waiting.ok in let b = c.args.self.now.serving.ok in let r =
    c.args.self.now.waiting_room in let s = c.requires in omega arith

pub invariant_of-self : goal.invariant_of-self
invariant_of-self g c = record {
  laid = (served_side g.H.Traveller.name g.H.Traveller.slot_of g.H.Traveller.hop_of _ _ c.in-Some.slot
      c.serve_at-waits.result _ _ c.serve_at-waits.new.desks.items _ c.note.new.waiting.items
      c.args.self.now.serving.items c.pop.new.self.items _ _ c.args.self.now.laid
      (search rules) c.serve_at-waits.ensures.served c.note.ensures.noted).0;
  aside_room = search rules;
  waiting_room = search rules;
  serving_room = search rules;
}

pub returns-clause-roll : goal.returns-clause-roll
returns-clause-roll g c =
    let served = served_side g.H.Traveller.name g.H.Traveller.slot_of g.H.Traveller.hop_of _ _ c.in-Some.slot
    c.serve_at-waits.result _ _ c.serve_at-waits.new.desks.items _ c.note.new.waiting.items
    c.args.self.now.serving.items c.pop.new.self.items _ _ c.args.self.now.laid
    (search rules) c.serve_at-waits.ensures.served c.note.ensures.noted in
    roll_same _ _ _ _ _ _ _ _ served.1 served.2 served.3

pub returns-clause-homes : goal.returns-clause-homes
returns-clause-homes g c =
    (served_side g.H.Traveller.name g.H.Traveller.slot_of g.H.Traveller.hop_of _ _ c.in-Some.slot
    c.serve_at-waits.result _ _ c.serve_at-waits.new.desks.items _ c.note.new.waiting.items
    c.args.self.now.serving.items c.pop.new.self.items _ _ c.args.self.now.laid
    (search rules) c.serve_at-waits.ensures.served c.note.ensures.noted).4

pub returns-clause-served : goal.returns-clause-served
returns-clause-served g c =
    (served_side g.H.Traveller.name g.H.Traveller.slot_of g.H.Traveller.hop_of _ _ c.in-Some.slot
    c.serve_at-waits.result _ _ c.serve_at-waits.new.desks.items _ c.note.new.waiting.items
    c.args.self.now.serving.items c.pop.new.self.items _ _ c.args.self.now.laid
    (search rules) c.serve_at-waits.ensures.served c.note.ensures.noted).5

pub returns-clause-passed : goal.returns-clause-passed
returns-clause-passed g c =
    passes_served (λ half. g.H.Traveller.slot_of (g.H.Traveller.name half)) g.H.Traveller.hop_of g.H.Traveller.name
    c.args.self.now.places.items _ c.in-Some.slot c.serve_at-waits.result _ _ _ _
    (waiting_within g.H.Traveller.name g.H.Traveller.slot_of c.args.self.now.places.items c.in-Some.slot
    (next_waits g.H.Traveller.name g.H.Traveller.slot_of c.args.self.now.places.items c.in-Some.slot _ _ _
    c.args.self.now.serving.items c.pop.new.self.items _ _ c.args.self.now.laid (search rules)))
    refl
    (λ before half told to. own_front g.H.Traveller.name g.H.Traveller.slot_of c.in-Some.slot _ before half told to
    (c.args.self.now.laid.fronts c.in-Some.slot))
    c.serve_at-waits.ensures.served
