use Rattle.std.proofs.Common.{rules, ◌∙◌, refl, arith}
use Rattle.migration.proofs.DataTables.{emptying_none, emptying_few, emptying_more, emptying_ends, emptying_all}
use Rattle.migration.proofs.data_steps.drained.Goals as goal

pub loop-init : goal.loop-init
loop-init g c = (
  emptying_none (λ half. g.H.DataTraveller.slot_at (g.H.DataTraveller.name half)) g.H.DataTraveller.item_slot g.H.DataTraveller.handled c.args.slot
      c.args.at c.args.queue.items c.args.desks.now.items
      c.requires.law c.requires.own,
  refl,
)

pub send_first-requires-clause-few : goal.send_first-requires-clause-few
send_first-requires-clause-few g c = λ κs within.
    let e = emptying_few (λ half. g.H.DataTraveller.slot_at (g.H.DataTraveller.name half)) g.H.DataTraveller.item_slot g.H.DataTraveller.handled
    c.args.slot c.args.at c.args.queue.items c.args.desks.now.items
    _ _ _ c.loop.invariant.0 in
    let r = c.requires.few in omega arith

pub send_first-requires-clause-law : goal.send_first-requires-clause-law
send_first-requires-clause-law g c = λ κs within. c.loop.invariant.0.law

pub send_first-requires-clause-own : goal.send_first-requires-clause-own
send_first-requires-clause-own g c = λ κs within. c.loop.invariant.0.own

pub loop-preserved : goal.loop-preserved
loop-preserved g c =
    let sent = c.send_first.ensures.sent (search rules) in (
      emptying_more (λ half. g.H.DataTraveller.slot_at (g.H.DataTraveller.name half)) g.H.DataTraveller.item_slot g.H.DataTraveller.handled c.args.slot
          c.args.at c.args.queue.items c.args.desks.now.items
          _ sent.item _ _ _ _ c.loop.invariant.0 sent.first sent.given,
      c.send_first.ensures.len ∙ c.loop.invariant.1,
    )

pub returns-then-not-send_first-clause-empties : goal.returns-then-not-send_first-clause-empties
returns-then-not-send_first-clause-empties g c =
    let rests = c.send_first.ensures.refused (search rules) in
    emptying_ends (λ half. g.H.DataTraveller.slot_at (g.H.DataTraveller.name half)) g.H.DataTraveller.item_slot g.H.DataTraveller.handled c.args.slot
    c.args.at c.args.queue.items c.args.desks.now.items
    _ _ _ _ _ c.loop.invariant.0 rests.0 rests.1

pub returns-clause-empties : goal.returns-clause-empties
returns-clause-empties g c =
    emptying_all (λ half. g.H.DataTraveller.slot_at (g.H.DataTraveller.name half)) g.H.DataTraveller.item_slot g.H.DataTraveller.handled c.args.slot
    c.args.at c.args.queue.items c.args.desks.now.items
    c.loop.counter _ _ c.loop.invariant.0 (search rules)
