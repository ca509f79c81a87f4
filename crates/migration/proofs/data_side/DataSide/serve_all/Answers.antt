use Rattle.std.proofs.Common.{rules, ◌∙◌, ◌≡◌, ◌<◌, true, length, get_or, inl, refl, sym, ap, subst, arith}
use Rattle.worker_core.proofs.Rising.{lasts_then}
use Rattle.migration.specs.DataDue.{is_among, Lists}
use Rattle.migration.proofs.DataSides.{same_default}
use Rattle.migration.proofs.DataPasses.{Waits, served_still}
use Rattle.migration.proofs.DataRising.{at_among}
use Rattle.migration.proofs.DataListings.{waits_due, listed_none, listed_more, listed_all}
use Rattle.migration.proofs.DataQueues.{queues_stay}
use Rattle.migration.proofs.DataPumps.{each_offered_same, each_offered_then, each_served}
use Rattle.migration.proofs.data_side.DataSide.serve_all.Goals as goal

pub loop-at-init : goal.loop-at-init
loop-at-init g c = (
  refl,
  refl,
  refl,
  refl,
  λ slice. inl refl,
  each_offered_same _,
  listed_none Waits c.args.self.now.due.items c.args.self.now.places.items c.args.self.now.desks.items,
  λ slot. refl,
)

pub loop-at-preserved : goal.loop-at-preserved
loop-at-preserved g c =
    let at = c.serve.ensures.served in
    let this : get_or c.args.self.now.due.items c.loop-at.at 0 ≡ c.index-slot.result.now =
    ap (λ l. get_or l c.loop-at.at 0) (sym c.loop-at.invariant.3)
    ∙ same_default c.loop-at.self.due.items c.loop-at.at 0 c.index-slot.result.now
    (let a = c.args.self.now.due.ok in let b = c.loop-at-test.true in let d = c.len-at-end.ensures in
    let e = ap length c.loop-at.invariant.3 in omega arith)
    ∙ sym c.index-slot.ensures in
    let s = served_still g.H.DataTraveller.name g.H.DataTraveller.slot_at g.H.DataTraveller.item_slot g.H.DataTraveller.handled _ _
    c.index-slot.result.now _ _ _ _ _ _ c.loop-at.self.laid at in (
      c.serve.ensures.roll ∙ c.loop-at.invariant.0,
      c.serve.ensures.aside ∙ c.loop-at.invariant.1,
      c.serve.ensures.homes ∙ c.loop-at.invariant.2,
      c.serve.ensures.due ∙ c.loop-at.invariant.3,
      λ slice. lasts_then _ _ _ (c.loop-at.invariant.4 slice) (s.lasts slice),
      each_offered_then _ _ _ c.loop-at.invariant.5 (each_served (λ half. g.H.DataTraveller.slot_at (g.H.DataTraveller.name half))
          g.H.DataTraveller.item_slot g.H.DataTraveller.handled _ _ at.0 c.index-slot.result.now _ _ at.1 at.2 at.3),
      listed_more Waits c.loop-at.at c.index-slot.result.now c.args.self.now.due.items c.loop-at.self.places.items
          c.serve.new.self.places.items at.0 c.args.self.now.desks.items c.loop-at.self.desks.items
          c.serve.new.self.desks.items this at.1 at.2 c.loop-at.invariant.4 s.lasts at.3.again c.loop-at.invariant.6,
      λ slot. queues_stay _ _ at.0 c.index-slot.result.now at.1 at.2 at.3.queue slot ∙ c.loop-at.invariant.7 slot,
    )

pub returns-clause-full : goal.returns-clause-full
returns-clause-full g c =
    listed_all Waits c.loop-at.self.places.items c.args.self.now.due.items c.args.self.now.desks.items
    c.loop-at.self.desks.items c.loop-at.at
    (let a = c.args.self.now.due.ok in let b = c.loop-at-test.false in let d = c.len-at-end.ensures in omega arith)
    (subst (Lists c.loop-at.self.places.items) c.loop-at.invariant.3 c.loop-at.self.listed) waits_due
    c.loop-at.invariant.6

pub serve-requires-after_bounds : goal.serve-requires-after_bounds
serve-requires-after_bounds g c =
    let inside : c.loop-at.at < length c.loop-at.self.due.items =
    (let a = c.args.self.now.due.ok in let b = c.loop-at-test.true in let d = c.len-at-end.ensures in
    let e = ap length c.loop-at.invariant.3 in omega arith) in
    let here : is_among c.index-slot.result.now c.loop-at.self.due.items ≡ true =
    at_among c.index-slot.result.now c.loop-at.at c.loop-at.self.due.items inside
    (same_default c.loop-at.self.due.items c.loop-at.at 0 c.index-slot.result.now inside ∙ sym c.index-slot.ensures) in
    search (rules, here)

pub returns-clause-queues : goal.returns-clause-queues
returns-clause-queues g c = c.loop-at.invariant.7

pub returns-clause-states : goal.returns-clause-states
returns-clause-states g c = c.loop-at.invariant.5

pub returns-clause-lasts : goal.returns-clause-lasts
returns-clause-lasts g c = c.loop-at.invariant.4
