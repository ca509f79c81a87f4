use Rattle.std.proofs.Common.{rules, ◌∙◌, ◌≡◌, ◌<◌, true, length, get_or, filter, inl, refl, sym, ap, subst, arith}
use Rattle.worker_core.proofs.Rising.{lasts_then}
use Rattle.migration.specs.DataPlaces.{place_at, is_due}
use Rattle.migration.specs.DataDue.{is_among, Lists}
use Rattle.migration.proofs.DataSides.{same_default}
use Rattle.migration.proofs.DataRising.{at_among}
use Rattle.migration.proofs.DataListings.{queues_due, lists_kept, listed_none, listed_more, listed_all}
use Rattle.migration.proofs.DataPasses.{Queues, waits_kept}
use Rattle.migration.proofs.DataPasses.{drained_still}
use Rattle.migration.proofs.DataQueues.{each_same, each_shortens}
use Rattle.migration.proofs.DataPumps.{states_kept}
use Rattle.migration.proofs.data_side.DataSide.drain_all.Goals as goal

pub loop-at-init : goal.loop-at-init
loop-at-init g c = (
  refl,
  refl,
  refl,
  refl,
  λ slice. inl refl,
  listed_none Queues c.args.self.now.due.items c.args.self.now.places.items c.args.self.now.desks.items,
  λ slot. refl,
  λ slot. refl,
  each_same c.args.self.now.places.items,
)

pub loop-at-preserved : goal.loop-at-preserved
loop-at-preserved g c =
    let at = c.drain.ensures.drained in
    let this : get_or c.args.self.now.due.items c.loop-at.at 0 ≡ c.index-slot.result.now =
    ap (λ l. get_or l c.loop-at.at 0) (sym c.loop-at.invariant.3)
    ∙ same_default c.loop-at.self.due.items c.loop-at.at 0 c.index-slot.result.now
    (let a = c.args.self.now.due.ok in let b = c.loop-at-test.true in let d = c.len-at-end.ensures in
    let e = ap length c.loop-at.invariant.3 in omega arith)
    ∙ sym c.index-slot.ensures in
    let s = drained_still g.H.DataTraveller.name g.H.DataTraveller.slot_at g.H.DataTraveller.item_slot g.H.DataTraveller.handled _ _
    c.index-slot.result.now _ _ _ _ _ _ c.loop-at.self.laid at in (
      c.drain.ensures.roll ∙ c.loop-at.invariant.0,
      c.drain.ensures.aside ∙ c.loop-at.invariant.1,
      c.drain.ensures.homes ∙ c.loop-at.invariant.2,
      c.drain.ensures.due ∙ c.loop-at.invariant.3,
      λ slice. lasts_then _ _ _ (c.loop-at.invariant.4 slice) (s.lasts slice),
      listed_more Queues c.loop-at.at c.index-slot.result.now c.args.self.now.due.items c.loop-at.self.places.items
          c.drain.new.self.places.items at.0 c.args.self.now.desks.items c.loop-at.self.desks.items
          c.drain.new.self.desks.items this at.1 at.2 c.loop-at.invariant.4 s.lasts
          (λ slice is. at.3.again slice is.0 is.1) c.loop-at.invariant.5,
      λ slot. waits_kept _ _ at.0 c.index-slot.result.now at.1 at.2 at.3.waits slot ∙ c.loop-at.invariant.6 slot,
      λ slot. states_kept _ _ at.0 c.index-slot.result.now at.1 at.2 at.3.state slot ∙ c.loop-at.invariant.7 slot,
      each_shortens c.args.self.now.places.items _ _ at.0 c.index-slot.result.now at.1 at.2 at.3.queue
          c.loop-at.invariant.8,
    )

pub returns-clause-queues : goal.returns-clause-queues
returns-clause-queues g c = λ slot slice is some.
    listed_all Queues c.loop-at.self.places.items c.args.self.now.due.items c.args.self.now.desks.items
    c.loop-at.self.desks.items c.loop-at.at
    (let a = c.args.self.now.due.ok in let b = c.loop-at-test.false in let d = c.len-at-end.ensures in omega arith)
    (subst (Lists c.loop-at.self.places.items) c.loop-at.invariant.3 c.loop-at.self.listed) queues_due
    c.loop-at.invariant.5 slot slice (is, some)

pub drain-requires-after_bounds : goal.drain-requires-after_bounds
drain-requires-after_bounds g c =
    let inside : c.loop-at.at < length c.loop-at.self.due.items =
    (let a = c.args.self.now.due.ok in let b = c.loop-at-test.true in let d = c.len-at-end.ensures in
    let e = ap length c.loop-at.invariant.3 in omega arith) in
    let here : is_among c.index-slot.result.now c.loop-at.self.due.items ≡ true =
    at_among c.index-slot.result.now c.loop-at.at c.loop-at.self.due.items inside
    (same_default c.loop-at.self.due.items c.loop-at.at 0 c.index-slot.result.now inside ∙ sym c.index-slot.ensures) in
    search (rules, here)

pub invariant_of-self-2 : goal.invariant_of-self-2
invariant_of-self-2 g c =
    let there : c.deref.result.now ≡ c.loop-at.self.places.items = search rules in
    record {
      laid = c.loop-at.self.laid;
      aside_room = c.loop-at.self.aside_room;
      listed = lists_kept c.loop-at.self.places.items c.loop-at.self.due.items c.keep_due.new.due.items
          (c.keep_due.ensures.kept
          ∙ ap (λ l. filter (λ slot. is_due (place_at l slot)) c.loop-at.self.due.items) there)
          c.loop-at.self.listed;
      due_room = let room = c.loop-at.self.due_room in let same = c.keep_due.ensures.room in omega arith;
      counted = c.loop-at.self.counted;
    }

pub returns-clause-drains : goal.returns-clause-drains
returns-clause-drains g c = c.loop-at.invariant.8

pub returns-clause-waits : goal.returns-clause-waits
returns-clause-waits g c = c.loop-at.invariant.6

pub returns-clause-states : goal.returns-clause-states
returns-clause-states g c = c.loop-at.invariant.7

pub returns-clause-lasts : goal.returns-clause-lasts
returns-clause-lasts g c = c.loop-at.invariant.4
