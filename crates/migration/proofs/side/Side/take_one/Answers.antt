use Rattle.std.proofs.Common.{rules, ◌∙◌, [], ◌∷◌, ◌++◌, refl, sym, ap, subst, arith}
use Rattle.worker_core.proofs.AtDesks.{changed_lanes}
use Rattle.migration.specs.Places.{place_at, names_of, hops_of}
use Rattle.migration.proofs.PlaceSteps.{waiting_fewer, came_home, kept_aside, leaving_idle}
use Rattle.worker_core.proofs.Homes.{took_half, took_none}
use Rattle.migration.proofs.Servings.{roll_same, names_set, hops_set, welcomed_name}
use Rattle.migration.proofs.Passes.{passes_same, passes_empty, passes_home, passes_aside}
use Rattle.migration.proofs.Pumps.{takes_none, takes_empty, takes_aside, takes_half, still_none, still_same, still_came}
use Rattle.migration.specs.Passes.{Unawaited}
use Rattle.migration.proofs.side.Side.take_one.Goals as goal

pub returns-in_default-clause-roll : goal.returns-in_default-clause-roll
returns-in_default-clause-roll g c =
    let none = c.in_default.ensures.taken in
    roll_same _ _ _ _ _ _ _ _ refl refl (changed_lanes c.args.slice none.before none.now _ _ none.desk)

pub returns-in_default-clause-took : goal.returns-in_default-clause-took
returns-in_default-clause-took g c =
    took_none c.args.slice _ _ _ _ _ c.in_default.ensures.taken (omega arith)

pub push_reserved-requires-in-None : goal.push_reserved-requires-in-None
push_reserved-requires-in-None g c =
    let w = c.in-None.ensures in
    let idle = leaving_idle _ _ _ w.3 in
    let few = waiting_fewer g.H.Traveller.name g.H.Traveller.slot_of c.args.self.now.places.items
    c.slot-slot.result _ _ _ _ _ _ c.args.self.now.laid
    w.1 idle.0 idle.1 in
    let a = c.args.self.now.waiting.ok in let r = c.args.self.now.waiting_room in omega arith

pub invariant_of-self-in-Some-welcome : goal.invariant_of-self-in-Some-welcome
invariant_of-self-in-Some-welcome g c = record {
  laid = kept_aside g.H.Traveller.name g.H.Traveller.slot_of _ _ c.args.slice c.in-Some.half _ _ _ _ _ _ _ _
      c.args.self.now.laid c.in-Some.ensures.taken
      (c.push_reserved.ensures.items ∙ ap (λ h. c.args.self.now.aside.items ++ h ∷ []) c.in-Some-welcome.ensures.0)
      (let a = c.args.self.now.aside.ok in omega arith) c.in-Some-welcome.ensures.1;
  aside_room = search rules;
  waiting_room = search rules;
  serving_room = search rules;
}

pub invariant_of-self-in-None : goal.invariant_of-self-in-None
invariant_of-self-in-None g c =
    let w = c.in-None.ensures in
    record {
      laid = came_home g.H.Traveller.name g.H.Traveller.slot_of c.args.self.now.places.items _ w.0
          c.slot-slot.result c.args.slice c.in-Some.half _ _ _ _ _ _ _ _ c.args.self.now.laid
          w.1 c.in-Some.ensures.taken (sym c.slot-slot.ensures) _ refl w.3 c.push_reserved-in-None.ensures.items w.2;
      aside_room = search rules;
      waiting_room = search rules;
      serving_room = search rules;
    }

pub returns-in-Some-welcome-clause-roll : goal.returns-in-Some-welcome-clause-roll
returns-in-Some-welcome-clause-roll g c =
    let took = c.in-Some.ensures.taken in
    roll_same _ _ _ _ _ _ _ _ (ap (names_of g.H.Traveller.name) c.in-Some-welcome.ensures.1)
    (ap hops_of c.in-Some-welcome.ensures.1)
    (changed_lanes c.args.slice took.before took.now _ _ took.desk)

pub returns-in-Some-welcome-clause-took : goal.returns-in-Some-welcome-clause-took
returns-in-Some-welcome-clause-took g c =
    took_half c.args.slice _ _ _ _ _ c.in-Some.half c.in-Some.ensures.taken (search rules)

pub returns-in-None-clause-roll : goal.returns-in-None-clause-roll
returns-in-None-clause-roll g c =
    let took = c.in-Some.ensures.taken in
    let w = c.in-None.ensures in
    let same = welcomed_name g.H.Traveller.name c.args.self.now.places.items w.0 c.slot-slot.result c.in-Some.half
    _ refl w.3 in
    roll_same _ _ _ _ _ _ _ _
    (ap (names_of g.H.Traveller.name) w.2 ∙ names_set g.H.Traveller.name c.args.self.now.places.items w.0
    c.slot-slot.result same.0)
    (ap hops_of w.2 ∙ hops_set g.H.Traveller.name c.args.self.now.places.items w.0 c.slot-slot.result same.1)
    (changed_lanes c.args.slice took.before took.now _ _ took.desk)

pub returns-in-None-clause-took : goal.returns-in-None-clause-took
returns-in-None-clause-took g c =
    took_half c.args.slice _ _ _ _ _ c.in-Some.half c.in-Some.ensures.taken (omega arith)

pub returns-then-len-self-clause-passed : goal.returns-then-len-self-clause-passed
returns-then-len-self-clause-passed g c = passes_same
    (λ half. g.H.Traveller.slot_of (g.H.Traveller.name half)) g.H.Traveller.hop_of _ _ _ _ _ _ refl refl (λ slice. refl)

pub returns-in_default-clause-passed : goal.returns-in_default-clause-passed
returns-in_default-clause-passed g c = passes_empty (λ half. g.H.Traveller.slot_of (g.H.Traveller.name half))
    g.H.Traveller.hop_of c.args.slice _ _ _ _ c.in_default.ensures.taken

pub returns-in-Some-welcome-clause-passed : goal.returns-in-Some-welcome-clause-passed
returns-in-Some-welcome-clause-passed g c =
    passes_aside (λ half. g.H.Traveller.slot_of (g.H.Traveller.name half)) g.H.Traveller.hop_of c.args.slice
    c.in-Some.half _ _ _ _ _ _ c.in-Some.ensures.taken c.in-Some-welcome.ensures.1
    (c.push_reserved.ensures.items ∙ ap (λ h. c.args.self.now.aside.items ++ h ∷ []) c.in-Some-welcome.ensures.0)
    (subst (λ n. Unawaited (place_at c.args.self.now.places.items n)) c.slot-slot.ensures c.in-Some-welcome.ensures.2)

pub returns-in-None-clause-passed : goal.returns-in-None-clause-passed
returns-in-None-clause-passed g c =
    let w = c.in-None.ensures in
    passes_home (λ half. g.H.Traveller.slot_of (g.H.Traveller.name half)) g.H.Traveller.hop_of c.args.slice
    c.slot-slot.result c.in-Some.half w.0 _ _ _ _ _ c.in-Some.ensures.taken w.1 w.2 w.3

pub returns-then-len-self-clause-takes : goal.returns-then-len-self-clause-takes
returns-then-len-self-clause-takes g c = takes_none _ _ _ _ refl refl

pub returns-in_default-clause-takes : goal.returns-in_default-clause-takes
returns-in_default-clause-takes g c = takes_empty c.args.slice _ _ _ c.in_default.ensures.taken

pub returns-in-Some-welcome-clause-takes : goal.returns-in-Some-welcome-clause-takes
returns-in-Some-welcome-clause-takes g c =
    takes_aside c.args.slice c.in-Some.half _ _ _ _ c.in-Some.ensures.taken c.in-Some-welcome.ensures.1

pub returns-in-None-clause-takes : goal.returns-in-None-clause-takes
returns-in-None-clause-takes g c =
    let w = c.in-None.ensures in
    takes_half c.args.slice c.slot-slot.result c.in-Some.half w.0 _ _ _ _ c.in-Some.ensures.taken w.1 w.2 w.3

pub returns-then-len-self-clause-still : goal.returns-then-len-self-clause-still
returns-then-len-self-clause-still g c = still_none _ _

pub returns-in_default-clause-still : goal.returns-in_default-clause-still
returns-in_default-clause-still g c = still_none _ _

pub returns-in-Some-welcome-clause-still : goal.returns-in-Some-welcome-clause-still
returns-in-Some-welcome-clause-still g c = still_same _ _ _ c.in-Some-welcome.ensures.1

pub returns-in-None-clause-still : goal.returns-in-None-clause-still
returns-in-None-clause-still g c = still_came _ _ c.slot-slot.result _ _ c.push_reserved-in-None.ensures.items
