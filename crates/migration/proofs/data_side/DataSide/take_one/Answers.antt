use Rattle.std.proofs.Common.{rules, ◌≡◌, ◌∙◌, inl, inr, true, List, Option, Some, None, length, refl, sym, ap, subst, map, arith}
use Rattle.std.proofs.lemmas.List.{length-set}
use Rattle.migration.specs.declared.data_place.DataPlace.{DataPlace}
use Rattle.migration.specs.DataPlaces.{place_at, state_at, leaves, accepted_at, moved_at, names_of}
use Rattle.migration.specs.DataDue.{Lists}
use Rattle.migration.specs.DataPumps.{TakesHome}
use Rattle.migration.specs.DataSides.{is_lost, IsDataSide}
use Rattle.worker_core.proofs.AtDesks.{changed_lanes}
use Rattle.worker_core.proofs.Homes.{took_half, took_none, took_full}
use Rattle.migration.proofs.DataReturns.{came_home, kept_aside, none_home, welcomed_lists}
use Rattle.migration.proofs.DataPasses.{roll_same}
use Rattle.migration.specs.DataLeavers.{leavers_of}
use Rattle.migration.proofs.DataCounted.{came_from, counts_few, counts_step, counts_there, left_was, welcomed_leaves}
use Rattle.migration.proofs.DataCounted.{counts_kept}
use Rattle.migration.proofs.DataListings.{lists_joined}
use Rattle.migration.proofs.DataRising.{room_more}
use Rattle.migration.proofs.DataPumps.{takes_none, takes_welcome, takes_aside}
use Rattle.migration.proofs.data_side.DataSide.take_one.Goals as goal

pub invariant_of-self-in_default : goal.invariant_of-self-in_default
invariant_of-self-in_default g c = record {
  laid = none_home g.H.DataTraveller.name g.H.DataTraveller.slot_at g.H.DataTraveller.item_slot g.H.DataTraveller.handled _ c.args.slice _ _ _ _ _ _
      c.args.self.now.laid c.in_default.ensures.taken;
  aside_room = search rules;
  listed = c.args.self.now.listed;
  due_room = c.args.self.now.due_room;
  counted = c.args.self.now.counted;
}

pub returns-in_default-clause-roll : goal.returns-in_default-clause-roll
returns-in_default-clause-roll g c =
    let none = c.in_default.ensures.taken in
    roll_same _ _ _ _ _ _ _ _ _ _ _ _ refl refl refl (changed_lanes c.args.slice none.before none.now _ _ none.desk)

pub returns-in_default-clause-took : goal.returns-in_default-clause-took
returns-in_default-clause-took g c =
    took_none c.args.slice _ _ _ _ _ c.in_default.ensures.taken (omega arith)

pub invariant_of-self-in-Some-welcome_at : goal.invariant_of-self-in-Some-welcome_at
invariant_of-self-in-Some-welcome_at g c = record {
  laid = subst (λ (l : List (Option (DataPlace _ _))). IsDataSide g.H.DataTraveller.name g.H.DataTraveller.slot_at g.H.DataTraveller.item_slot
      g.H.DataTraveller.handled l c.push_reserved.new.self.items c.take_home.new.desks.items
      c.args.self.now.room c.args.self.now.admitted c.args.self.now.asked) (sym c.in-Some-welcome_at.ensures.1)
      (kept_aside g.H.DataTraveller.name g.H.DataTraveller.slot_at g.H.DataTraveller.item_slot g.H.DataTraveller.handled _ c.args.slice
      c.in-Some.half _ _ _ _ _ _ _ _ c.args.self.now.laid c.in-Some.ensures.taken
      c.in-Some-welcome_at.ensures.0 refl c.push_reserved.ensures.items
      (let a = c.args.self.now.aside.ok in omega arith));
  aside_room = search rules;
  listed = subst (λ (l : List (Option (DataPlace _ _))). Lists l c.args.self.now.due.items)
      (sym c.in-Some-welcome_at.ensures.1) c.args.self.now.listed;
  due_room = let n = ap length c.in-Some-welcome_at.ensures.1 in let room = c.args.self.now.due_room in omega arith;
  counted = counts_kept _ _ c.args.self.now.leavers c.in-Some-welcome_at.ensures.1 c.args.self.now.counted;
}

pub invariant_of-self-in-None : goal.invariant_of-self-in-None
invariant_of-self-in-None g c =
    let w = c.in-None.ensures in
    let laws = g.met.H.DataTraveller g.world.𝓛 g.world.𝓜 g.world.𝓡 ((λ s x. x), (λ x. x), (λ x. x), λ x. x) in
    let same : c.deref-2.result.now ≡ c.args.self.now.aside.items = search rules in
    record {
      laid = came_home g.H.DataTraveller.name g.H.DataTraveller.slot_at g.H.DataTraveller.item_slot g.H.DataTraveller.handled
          c.args.self.now.places.items _ w.0 c.slot-slot.result c.args.slice c.in-Some.half _ _ _ _ _ _
          c.args.self.now.laid
          w.1 c.in-Some.ensures.taken (laws.half_slots c.in-Some.half ∙ sym c.slot-slot.ensures)
          (ap (λ f. is_lost f c.slot-slot.result c.args.self.now.aside.items) (λ i x. laws.half_slots x i)
          ∙ ap (is_lost g.H.DataKind.slot_of_half c.slot-slot.result) (sym same) ∙ w.2) w.3 w.4;
      aside_room = search rules;
      listed = lists_joined c.args.self.now.places.items _ w.0 c.slot-slot.result true c.args.self.now.due.items
          c.list.new.due.items w.1 w.3 c.args.self.now.listed (λ is. refl)
          (c.list.ensures.joins (length c.args.self.now.places.items) w.1 c.args.self.now.listed.rising);
      due_room =
          let n = ap length w.3 ∙ length-set c.args.self.now.places.items c.slot-slot.result w.0 in
          let room = c.args.self.now.due_room in let more = c.list.ensures.room in omega arith;
      counted = counts_step c.args.self.now.places.items _ w.0 c.slot-slot.result c.left-was.result None _ _ w.1 w.3
          (left_was c.args.self.now.places.items c.deref.result.now c.slot-slot.result c.left-was.result
          c.left-was.ensures (search rules))
          (sym (welcomed_leaves (λ half. g.H.DataTraveller.slot_at (g.H.DataTraveller.name half)) g.H.DataTraveller.item_slot g.H.DataTraveller.handled
          c.slot-slot.result c.in-Some.half c.args.slice _ w.0 w.4))
          c.shift.ensures c.args.self.now.counted;
    }

pub shift-requires-clause-few : goal.shift-requires-clause-few
shift-requires-clause-few g c = counts_few c.args.self.now.places.items c.args.self.now.leavers
    c.args.self.now.counted c.args.self.now.laid.short

pub shift-requires-clause-there : goal.shift-requires-clause-there
shift-requires-clause-there g c = counts_there c.args.self.now.places.items c.args.self.now.leavers c.slot-slot.result
    c.left-was.result c.args.self.now.counted
    (left_was c.args.self.now.places.items c.deref.result.now c.slot-slot.result c.left-was.result c.left-was.ensures
    (search rules))

pub list-requires : goal.list-requires
list-requires g c = λ none.
    let more = room_more c.slot-slot.result (length c.args.self.now.places.items) c.args.self.now.due.items
    c.args.self.now.listed.rising c.in-None.ensures.1 none in
    let room = c.args.self.now.due_room in let long = c.args.self.now.due.ok in omega arith

pub returns-in-Some-welcome_at-clause-roll : goal.returns-in-Some-welcome_at-clause-roll
returns-in-Some-welcome_at-clause-roll g c =
    let took = c.in-Some.ensures.taken in
    let same = c.in-Some-welcome_at.ensures.1 in
    roll_same _ _ _ _ _ _ _ _ _ _ _ _ (ap (names_of g.H.DataTraveller.name) same) (ap (λ l. map accepted_at l) same)
    (ap (λ l. map moved_at l) same)
    (changed_lanes c.args.slice took.before took.now _ _ took.desk)

pub returns-in-Some-welcome_at-clause-took : goal.returns-in-Some-welcome_at-clause-took
returns-in-Some-welcome_at-clause-took g c =
    took_half c.args.slice _ _ _ _ _ c.in-Some.half c.in-Some.ensures.taken (search rules)

pub returns-in-None-clause-roll : goal.returns-in-None-clause-roll
returns-in-None-clause-roll g c =
    let took = c.in-Some.ensures.taken in
    let w = c.in-None.ensures in
    let same = welcomed_lists g.H.DataTraveller.name c.in-Some.half c.args.slice c.args.self.now.places.items _ w.0
    c.slot-slot.result w.3 w.4 in
    roll_same _ _ _ _ _ _ _ _ _ _ _ _ same.0 same.1 same.2 (changed_lanes c.args.slice took.before took.now _ _
    took.desk)

pub returns-in-None-clause-took : goal.returns-in-None-clause-took
returns-in-None-clause-took g c =
    took_half c.args.slice _ _ _ _ _ c.in-Some.half c.in-Some.ensures.taken (omega arith)

pub returns-then-len-self-clause-took : goal.returns-then-len-self-clause-took
returns-then-len-self-clause-took g c = took_full c.args.slice _ _ _
    (let a = c.args.self.now.aside.ok in let b = c.args.self.now.laid.aside_few in search (rules, arith))

pub returns-in_default-clause-takes : goal.returns-in_default-clause-takes
returns-in_default-clause-takes g c = takes_none (λ half. g.H.DataTraveller.slot_at (g.H.DataTraveller.name half)) _ _

pub returns-then-len-self-clause-takes : goal.returns-then-len-self-clause-takes
returns-then-len-self-clause-takes g c = takes_none (λ half. g.H.DataTraveller.slot_at (g.H.DataTraveller.name half)) _ _

pub returns-in-None-clause-takes : goal.returns-in-None-clause-takes
returns-in-None-clause-takes g c =
    let w = c.in-None.ensures in
    takes_welcome (λ half. g.H.DataTraveller.slot_at (g.H.DataTraveller.name half)) _ _ w.0 c.slot-slot.result c.args.slice c.in-Some.half
    _ w.1 w.3 w.4

pub returns-in-Some-welcome_at-clause-takes : goal.returns-in-Some-welcome_at-clause-takes
returns-in-Some-welcome_at-clause-takes g c =
    let slot_of : g.row.H.Denot → _ = λ half. g.H.DataTraveller.slot_at (g.H.DataTraveller.name half) in
    let w = c.in-Some-welcome_at.ensures in
    let laws = g.met.H.DataTraveller g.world.𝓛 g.world.𝓜 g.world.𝓡 ((λ s x. x), (λ x. x), (λ x. x), λ x. x) in
    let same : c.deref-2.result.now ≡ c.args.self.now.aside.items = search rules in
    let at = ap slot_of w.0 ∙ laws.half_slots c.in-Some.half ∙ sym c.slot-slot.ensures in
    subst (λ (l : List (Option (DataPlace _ _))). TakesHome slot_of c.args.self.now.places.items l
    c.args.self.now.aside.items c.push_reserved.new.self.items) (sym w.1)
    (takes_aside slot_of c.args.self.now.places.items _ c.args.self.now.aside.items _
    (elim w.2 [
      | inl never ↦ inl (λ is. never (subst (λ s. leaves (state_at (place_at c.args.self.now.places.items s))
          ≡ Some c.args.slice) at is))
      | inr another ↦ inr (ap (λ s. is_lost slot_of s c.args.self.now.aside.items) at
          ∙ ap (λ f. is_lost f c.slot-slot.result c.args.self.now.aside.items) (λ i x. laws.half_slots x i)
          ∙ ap (is_lost g.H.DataKind.slot_of_half c.slot-slot.result) (sym same) ∙ another)
    ]) c.push_reserved.ensures.items)

pub returns-then-len-self-clause-leave : goal.returns-then-len-self-clause-leave
returns-then-len-self-clause-leave g c = λ other apart. refl

pub returns-in_default-clause-leave : goal.returns-in_default-clause-leave
returns-in_default-clause-leave g c = λ other apart. refl

pub returns-in-Some-welcome_at-clause-leave : goal.returns-in-Some-welcome_at-clause-leave
returns-in-Some-welcome_at-clause-leave g c = λ other apart. ap (leavers_of other) c.in-Some-welcome_at.ensures.1

pub returns-in-None-clause-leave : goal.returns-in-None-clause-leave
returns-in-None-clause-leave g c =
    let w = c.in-None.ensures in
    λ other apart. came_from (λ half. g.H.DataTraveller.slot_at (g.H.DataTraveller.name half)) g.H.DataTraveller.item_slot g.H.DataTraveller.handled
    c.slot-slot.result c.in-Some.half c.args.slice other c.args.self.now.places.items _ w.0 c.slot-slot.result w.1 w.3
    w.4 apart
