use Rattle.std.proofs.Common.{rules, ◌≡◌, ◌^◌, ◌+◌, Bool, false, cond, ◌<◌, ◌∙◌, length, refl, sym, ap, subst, arith}
use Rattle.std.specs.List.{sum_by}
use Rattle.migration.specs.declared.place.ControlPlace.{ControlPlace}
use Rattle.worker_core.specs.Desks.{lanes_of}
use Rattle.migration.specs.Places.{is_admitted, place_at}
use Rattle.migration.specs.Steps.{Admits}
use Rattle.migration.proofs.PlaceSteps.{waiting_few, admitted_side, admits_from, still_free}
use Rattle.worker_core.proofs.Growing.{grown_none}
use Rattle.migration.proofs.StateSteps.{sends_step}
use Rattle.migration.proofs.side.Side.admit.Goals as goal

pub note-requires : goal.note-requires
note-requires g c = λ waits.
    let few = waiting_few g.H.Traveller.name g.H.Traveller.slot_of _ _ _ _ _ _ _ c.make_room.new.self.laid in
    let a = c.make_room.new.self.waiting.ok in let r = c.in-Ok.ensures.enough.2 in omega arith

pub invariant_of-self : goal.invariant_of-self
invariant_of-self g c =
    let mid = c.make_room.new.self in
    let now : ControlPlace g.row.H.Denot = record {
      hop = c.args.hop;
      state = c.send-state.result;
      admitted = c.of-admitted.result;
    } in
    let within : c.slot-slot.result < length mid.places.items = let a = mid.places.ok in let b =
    c.in-Ok.ensures.enough.0 in omega arith in
    let fresh : is_admitted (place_at mid.places.items c.slot-slot.result) ≡ false =
    still_free g.H.Traveller.name g.H.Traveller.slot_of c.args.self.now.places.items mid.places.items
    c.slot-slot.result c.make_room.ensures.grown
    (ap (λ n. is_admitted (place_at c.args.self.now.places.items n)) c.slot-slot.ensures ∙ c.requires.fresh) in
    let there : c.args.slice < length mid.desks.items = let e = ap length c.make_room.ensures.desks in let s =
    c.requires.slice in omega arith in
    let few : mid.asked < 2 ^ 48 = let e = c.make_room.ensures.counts.1 in let s = c.requires.asked in omega arith in
    record {
      laid = admitted_side g.H.Traveller.name g.H.Traveller.slot_of g.H.Traveller.hop_of mid.places.items _
          c.slot-slot.result c.args.slice c.args.hop c.args.half
          _ _ _ _ _ _ _ _ mid.laid (sym c.slot-slot.ensures) fresh there c.requires.hop few
          (admits_from g.H.Traveller.name g.H.Traveller.hop_of c.slot-slot.result c.args.slice c.args.hop
          c.args.half mid.places.items mid.places.items _ now _ _
          (grown_none mid.places.items) within c.put.ensures refl c.of-admitted.ensures c.send-state.ensures.sends)
          (λ w. c.note.ensures.noted w ∙ ap (λ (t : Bool). sum_by w mid.waiting.items
          + cond t (w c.slot-slot.result) 0) c.waits-waits.ensures);
      aside_room = search rules;
      waiting_room = search rules;
      serving_room = search rules;
    }

pub returns-clause-ok : goal.returns-clause-ok
returns-clause-ok g c =
    let mid = c.make_room.new.self in
    let now : ControlPlace g.row.H.Denot = record {
      hop = c.args.hop;
      state = c.send-state.result;
      admitted = c.of-admitted.result;
    } in
    let within : c.slot-slot.result < length mid.places.items = let a = mid.places.ok in let b =
    c.in-Ok.ensures.enough.0 in omega arith in
    subst (λ slot. Admits g.H.Traveller.name g.H.Traveller.hop_of slot c.args.slice c.args.hop c.args.half
    c.args.self.now.places.items c.put.new.places.items c.args.self.now.desks.items
    c.send-state.new.desks.items) c.slot-slot.ensures
    (subst (λ desks. Admits g.H.Traveller.name g.H.Traveller.hop_of c.slot-slot.result c.args.slice c.args.hop
    c.args.half c.args.self.now.places.items c.put.new.places.items desks c.send-state.new.desks.items)
    c.make_room.ensures.desks
    (admits_from g.H.Traveller.name g.H.Traveller.hop_of c.slot-slot.result c.args.slice c.args.hop c.args.half
    c.args.self.now.places.items mid.places.items _ now _ _
    c.make_room.ensures.grown within c.put.ensures refl c.of-admitted.ensures c.send-state.ensures.sends))

pub returns-clause-lanes : goal.returns-clause-lanes
returns-clause-lanes g c =
    (sends_step g.H.Traveller.name _ _ g.H.Traveller.hop_of c.args.hop c.args.slice c.args.half c.send-state.result
    c.send-state.ensures.sends).0.lanes
    ∙ ap lanes_of c.make_room.ensures.desks
