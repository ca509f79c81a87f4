use Rattle.std.proofs.Common.{inl, inr, ap, length, List, subst, ◌∙◌}
use Rattle.std.specs.Prelude.{Result, Ok, Err, OnErr}
use Rattle.lane_core.specs.declared.did.Did.{Did}
use Rattle.lane_core.specs.Ends.{full_answers, empty_answers}
use Rattle.worker_core.specs.Answered.{AllRest}
use Rattle.worker_core.specs.Steps.{Turned}
use Rattle.worker_core.specs.Turns.{AllTurned}
use Rattle.worker_core.specs.Workers.{held_of, place_of, view_of}
use Rattle.worker_core.proofs.Views.{attended_some, attended_none, met_full, same_then}
use Rattle.worker_core.proofs.worker.Worker.turn.Goals as goal

pub returns-in_default-clause-worked : goal.returns-in_default-clause-worked
returns-in_default-clause-worked g c = λ _.
    elim (attended_some (λ half. g.H.Traveller.slot_of (g.H.Traveller.name half)) g.H.Traveller.done_of
    c.in_ok-attend.field-0 _ _ c.in_default.not-Nothing c.in_ok-attend.ensures.attended) [
      | inl took ↦ inl took
      | inr went ↦ inr (inl went)
    ]

pub returns-clause-worked : goal.returns-clause-worked
returns-clause-worked g c = λ worked. inr (inr (
  view_of c.attend.new.self,
  attended_none (λ half. g.H.Traveller.slot_of (g.H.Traveller.name half)) g.H.Traveller.done_of c.in_ok-attend.field-0
      (view_of c.args.self.now) (view_of c.attend.new.self) c.in-Nothing.is c.in_ok-attend.ensures.attended,
  subst (λ place. Turned g.H.Traveller.name g.H.Traveller.turns g.H.Traveller.works g.H.Traveller.turned_at
      (g.H.Traveller.came_to 8) place (view_of c.attend.new.self) (view_of c.turn_halves.new.self))
      c.attend.ensures.place (c.turn_halves.ensures.worked worked),
))

pub returns-clause-idle_orders : goal.returns-clause-idle_orders
returns-clause-idle_orders g c = λ idle.
    let none = attended_none (λ half. g.H.Traveller.slot_of (g.H.Traveller.name half)) g.H.Traveller.done_of
    c.in_ok-attend.field-0 (view_of c.args.self.now) (view_of c.attend.new.self) c.in-Nothing.is
    c.in_ok-attend.ensures.attended in
    ap empty_answers c.turn_halves.ensures.orders ∙ none.empties

pub returns-clause-idle_home : goal.returns-clause-idle_home
returns-clause-idle_home g c = λ idle some.
    let none = attended_none (λ half. g.H.Traveller.slot_of (g.H.Traveller.name half)) g.H.Traveller.done_of
    c.in_ok-attend.field-0 (view_of c.args.self.now) (view_of c.attend.new.self) c.in-Nothing.is
    c.in_ok-attend.ensures.attended in
    ap full_answers c.turn_halves.ensures.home ∙ none.fulls ∙ met_full _ (full_answers c.args.self.now.home) some

pub returns-clause-idle_turned : goal.returns-clause-idle_turned
returns-clause-idle_turned g c = λ idle.
    let none = attended_none (λ half. g.H.Traveller.slot_of (g.H.Traveller.name half)) g.H.Traveller.done_of
    c.in_ok-attend.field-0 (view_of c.args.self.now) (view_of c.attend.new.self) c.in-Nothing.is
    c.in_ok-attend.ensures.attended in
    subst (λ place. AllTurned g.H.Traveller.turns g.H.Traveller.works g.H.Traveller.turned_at place
    (held_of c.args.self.now) (held_of c.turn_halves.new.self)) c.attend.ensures.place
    (subst (λ (l : List g.row.H.Denot). AllTurned g.H.Traveller.turns g.H.Traveller.works g.H.Traveller.turned_at
    (place_of c.attend.new.self) l (held_of c.turn_halves.new.self)) none.held (c.turn_halves.ensures.idle idle))

pub returns-clause-idle_answers : goal.returns-clause-idle_answers
returns-clause-idle_answers g c = λ idle.
    let none = attended_none (λ half. g.H.Traveller.slot_of (g.H.Traveller.name half)) g.H.Traveller.done_of
    c.in_ok-attend.field-0 (view_of c.args.self.now) (view_of c.attend.new.self) c.in-Nothing.is
    c.in_ok-attend.ensures.attended in
    subst (λ (l : List g.row.H.Denot). AllRest (g.H.Traveller.came_to 8) 0 (length l) l
    (held_of c.turn_halves.new.self)) none.held (c.turn_halves.ensures.idle_answers idle)

pub returns-clause-idle : goal.returns-clause-idle
returns-clause-idle g c = λ idle.
    let none = attended_none (λ half. g.H.Traveller.slot_of (g.H.Traveller.name half)) g.H.Traveller.done_of
    c.in_ok-attend.field-0 (view_of c.args.self.now) (view_of c.attend.new.self) c.in-Nothing.is
    c.in_ok-attend.ensures.attended in
    same_then g.H.Traveller.name (λ half. g.H.Traveller.slot_of (g.H.Traveller.name half)) g.H.Traveller.done_of
    (view_of c.args.self.now) (view_of c.attend.new.self) (view_of c.turn_halves.new.self) none
    (c.turn_halves.ensures.idle_rest idle)

-- what holds of an error
on_err : {E P Q : Type 0} (r : Result Did E) → (P → Q) → OnErr r P → OnErr r Q
on_err (Ok did) gives on = on
on_err (Err err) gives on = gives on

pub returns-clause-err : goal.returns-clause-err
returns-clause-err g c =
    let none = attended_none (λ half. g.H.Traveller.slot_of (g.H.Traveller.name half)) g.H.Traveller.done_of
    c.in_ok-attend.field-0 (view_of c.args.self.now) (view_of c.attend.new.self) c.in-Nothing.is
    c.in_ok-attend.ensures.attended in
    on_err c.turn_halves.result (same_then g.H.Traveller.name
    (λ half. g.H.Traveller.slot_of (g.H.Traveller.name half)) g.H.Traveller.done_of (view_of c.args.self.now)
    (view_of c.attend.new.self) (view_of c.turn_halves.new.self) none) c.turn_halves.ensures.err
