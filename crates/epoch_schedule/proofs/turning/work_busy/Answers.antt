use Rattle.std.proofs.Common.{◌≡◌, true, [], length, refl, subst, sym, ap, ◌∙◌}
use Rattle.epoch_schedule.specs.World.{World, slot_at, control_at}
use Rattle.epoch_schedule.specs.ControlTurns.{next_place, cursor_at, work_all}
use Rattle.epoch_schedule.specs.Busy.{is_still, AreBusyBut}
use Rattle.epoch_schedule.specs.Rounds.{IsOrderly, place_held}
use Rattle.epoch_schedule.specs.Rosters.{roster_at}
use Rattle.epoch_schedule.specs.Worlds.{world_of}
use Rattle.epoch_schedule.proofs.Busying.{cursor_busy}
use Rattle.epoch_schedule.proofs.Skipped.{works_none, works_done, works_on, rests_now, orderly_after, busy_after}
use Rattle.epoch_schedule.proofs.turning.work_busy.Goals as goal

pub loop-numbers-init : goal.loop-numbers-init
loop-numbers-init c = record { busy_so = c.requires.busy; orderly = c.requires.orderly; ahead = refl }

pub next_half-at-requires-clause-busy : goal.next_half-at-requires-clause-busy
next_half-at-requires-clause-busy c = (c.args.setup.now.rooms.room, c.loop-numbers.invariant.busy_so)

pub rest_at-requires-clause-busy : goal.rest_at-requires-clause-busy
rest_at-requires-clause-busy c =
    let rooms = c.args.setup.now.rooms in
    subst (λ (w : World). AreBusyBut rooms.room [] c.loop-numbers.busy.items w) (sym c.in_ok-worked.ensures.world)
    (busy_after c.loop-numbers.busy.items rooms c.args.slice
    (work_all rooms c.args.slice (world_of c.args.numbers.now)) (world_of c.loop-numbers.numbers) c.loop-numbers.invariant
    c.next_half-at.result c.busy_at-slot.result c.in_ok-worked.worked c.next_half-at.ensures.within
    c.busy_at-slot.ensures c.next_half-at.ensures.first c.in_ok-worked.ensures.worked)

pub returns-then-worked-clause-world : goal.returns-then-worked-clause-world
returns-then-worked-clause-world c =
    let rooms = c.args.setup.now.rooms in
    let slice = c.args.slice in
    let slot = c.busy_at-slot.result in
    c.in_ok-set_behind.ensures
    ∙ ap (λ (w : World). cursor_at w slice (next_place w slice (place_held slot (control_at w slice).held)))
    c.in_ok-worked.ensures.world
    ∙ works_done c.loop-numbers.busy.items rooms slice (work_all rooms slice (world_of c.args.numbers.now))
    (world_of c.loop-numbers.numbers) c.loop-numbers.invariant c.next_half-at.result slot c.in_ok-worked.worked
    c.next_half-at.ensures.within c.busy_at-slot.ensures c.next_half-at.ensures.first c.in_ok-worked.ensures.worked
    c.if-worked.true

pub returns-then-worked-clause-busy : goal.returns-then-worked-clause-busy
returns-then-worked-clause-busy c =
    let room = c.args.setup.now.rooms.room in
    subst (λ (w : World). AreBusyBut room [] c.rest_at.new.busy.items w) (sym c.in_ok-set_behind.ensures)
    (cursor_busy room [] c.rest_at.new.busy.items (world_of c.turn_half.new.numbers) c.args.slice _ c.rest_at.ensures.busy)

pub loop-numbers-preserved : goal.loop-numbers-preserved
loop-numbers-preserved c =
    let rooms = c.args.setup.now.rooms in
    let slice = c.args.slice in
    let all = work_all rooms slice (world_of c.args.numbers.now) in
    let world = world_of c.loop-numbers.numbers in
    record {
      busy_so = c.rest_at.ensures.busy;
      orderly = subst (λ (w : World). IsOrderly (length w.slots) (roster_at w slice)) (sym c.in_ok-worked.ensures.world)
          (orderly_after c.loop-numbers.busy.items rooms slice all world c.loop-numbers.invariant c.next_half-at.result
          c.busy_at-slot.result c.in_ok-worked.worked c.next_half-at.ensures.within c.busy_at-slot.ensures
          c.next_half-at.ensures.first c.in_ok-worked.ensures.worked);
      ahead = ap (work_all rooms slice) c.in_ok-worked.ensures.world
          ∙ works_on c.loop-numbers.busy.items rooms slice all world c.loop-numbers.invariant c.next_half-at.result
          c.busy_at-slot.result c.in_ok-worked.worked c.next_half-at.ensures.within c.busy_at-slot.ensures
          c.next_half-at.ensures.first c.in_ok-worked.ensures.worked c.if-worked.false;
    }

pub loop-numbers-smaller : goal.loop-numbers-smaller
loop-numbers-smaller c =
    let rooms = c.args.setup.now.rooms in
    let slot = c.busy_at-slot.result in
    c.rest_at.ensures.fewer
    (subst (λ (w : World). is_still rooms.room (slot_at w slot) ≡ true) (sym c.in_ok-worked.ensures.world)
    (rests_now c.loop-numbers.busy.items rooms c.args.slice (work_all rooms c.args.slice (world_of c.args.numbers.now))
    (world_of c.loop-numbers.numbers) c.loop-numbers.invariant c.next_half-at.result slot c.in_ok-worked.worked
    c.next_half-at.ensures.within c.busy_at-slot.ensures c.next_half-at.ensures.first c.in_ok-worked.ensures.worked
    c.if-worked.false))

pub returns-clause-world : goal.returns-clause-world
returns-clause-world c =
    let rooms = c.args.setup.now.rooms in
    works_none c.loop-numbers.busy.items rooms c.args.slice (work_all rooms c.args.slice (world_of c.args.numbers.now))
    (world_of c.loop-numbers.numbers) c.loop-numbers.invariant (sym c.has_busy.ensures ∙ c.loop-numbers-test.false)

pub returns-clause-busy : goal.returns-clause-busy
returns-clause-busy c = c.loop-numbers.invariant.busy_so
