use Rattle.std.proofs.Common.{rules, ◌<◌, ◌≤◌, ◌∷◌, [], Option, None, Some, length, refl, subst, sym, arith}
use Rattle.epoch_schedule.specs.World.{World}
use Rattle.epoch_schedule.specs.Listed.{AreListedBut}
use Rattle.epoch_schedule.specs.Setups.{bounds_of}
use Rattle.epoch_schedule.specs.Waiting.{passed_by, slot_of, step_by, waits_of, NoneBefore}
use Rattle.epoch_schedule.specs.Worlds.{world_of}
use Rattle.epoch_schedule.specs.declared.passing.NextVisit.{NextVisit}
use Rattle.epoch_schedule.specs.declared.waiting.PassWaits.{PassWaits}
use Rattle.epoch_schedule.proofs.Kept.{touched_but}
use Rattle.epoch_schedule.proofs.Listing.{left_listed}
use Rattle.epoch_schedule.proofs.Passes.{begins, ends, visits}
use Rattle.epoch_schedule.proofs.Places.{none_of}
use Rattle.epoch_schedule.proofs.Touched.{step_touches}
use Rattle.epoch_schedule.proofs.passing.visit_all.Goals as goal

pub loop-next-init : goal.loop-next-init
loop-next-init c = record {
  passing = begins c.args.pass c.args.setup.now.rooms (bounds_of c.args.setup.now) (world_of c.args.numbers.now);
  listed = c.requires;
}

pub touch-requires : goal.touch-requires
touch-requires c =
    let setup = c.args.setup.now in
    let pass = c.args.pass in
    let world = world_of c.loop-next.numbers in
    let slot = c.in-Some.next.slot in
    let left = c.leave_out.new.self in
    let stepped = step_by pass setup.rooms (bounds_of setup) world slot in
    subst (λ (w : World). AreListedBut (slot ∷ []) setup left w) (sym c.in_ok-visit.ensures)
    (touched_but setup left slot world stepped (step_touches slot pass setup.rooms (bounds_of setup) world)
    (left_listed setup slot c.loop-next.waiting left world c.leave_out.ensures c.loop-next.invariant.listed))

pub loop-next-preserved : goal.loop-next-preserved
loop-next-preserved c =
    let setup = c.args.setup.now in
    let pass = c.args.pass in
    let bounds = bounds_of setup in
    let first = world_of c.args.numbers.now in
    let world = world_of c.loop-next.numbers in
    let slot = c.in-Some.next.slot in
    let waits = waits_of pass c.loop-next.waiting in
    let below : slot < length first.slots = search rules in
    record {
      passing = visits pass setup.rooms bounds first (passed_by pass setup.rooms bounds first) world c.loop-next.from
          waits (Some slot) c.loop-next.invariant.listed.within (c.loop-next.invariant.listed.waits pass)
          (subst (λ (w : PassWaits). NoneBefore pass setup.rooms world w c.loop-next.from (Some slot)) c.of_pass.ensures
          c.in-Some.ensures.first)
          c.loop-next.invariant.passing slot (world_of c.visit.new.numbers) refl c.in_ok-visit.ensures
          c.in-Some.ensures.from below;
      listed = c.in_ok-touch.ensures;
    }

pub returns-then-next-count-clause-world : goal.returns-then-next-count-clause-world
returns-then-next-count-clause-world c =
    let setup = c.args.setup.now in
    let pass = c.args.pass in
    let bounds = bounds_of setup in
    let first = world_of c.args.numbers.now in
    let world = world_of c.loop-next.numbers in
    let slot = c.in-Some.next.slot in
    let waits = waits_of pass c.loop-next.waiting in
    let past : length first.slots ≤ slot = search rules in
    ends pass setup.rooms bounds first (passed_by pass setup.rooms bounds first) world c.loop-next.from waits (Some slot)
    c.loop-next.invariant.listed.within (c.loop-next.invariant.listed.waits pass)
    (subst (λ (w : PassWaits). NoneBefore pass setup.rooms world w c.loop-next.from (Some slot)) c.of_pass.ensures
    c.in-Some.ensures.first)
    c.loop-next.invariant.passing (λ t below. omega (arith, past, below))

pub returns-clause-world : goal.returns-clause-world
returns-clause-world c =
    let setup = c.args.setup.now in
    let pass = c.args.pass in
    let bounds = bounds_of setup in
    let first = world_of c.args.numbers.now in
    let world = world_of c.loop-next.numbers in
    let from = c.loop-next.from in
    let waits = waits_of pass c.loop-next.waiting in
    ends pass setup.rooms bounds first (passed_by pass setup.rooms bounds first) world from waits None
    c.loop-next.invariant.listed.within (c.loop-next.invariant.listed.waits pass)
    (subst (λ (w : PassWaits). NoneBefore pass setup.rooms world w from None) c.of_pass.ensures
    (subst (λ (o : Option NextVisit). NoneBefore pass setup.rooms world c.of_pass.result.now from (slot_of o))
    (none_of c.next_of.result c.in_default.not-Some) c.next_of.ensures.first))
    c.loop-next.invariant.passing (λ t below. tt)
