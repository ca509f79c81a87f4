use Rattle.std.proofs.Common.{[], arith}
use Rattle.migration.proofs.DataTables.{accepts_any, lands_back, serves_law, serves_fit, serves_settled, serves_keeps}
use Rattle.migration.proofs.data_steps.give_placed.Goals as goal

pub serve_state-requires-clause-fits : goal.serve_state-requires-clause-fits
serve_state-requires-clause-fits g c = λ κs within.
    let len = c.args.desks.now.ok in (
      (let a = c.requires.ready.at in omega arith),
      (let a = c.requires.ready.to in omega arith),
    )

pub serve_state-requires-clause-few : goal.serve_state-requires-clause-few
serve_state-requires-clause-few g c = λ κs within. let a = c.requires.ready.few in omega arith

pub serve_state-requires-clause-law : goal.serve_state-requires-clause-law
serve_state-requires-clause-law g c = λ κs within. c.requires.ready.law

pub landed-answer-requires-clause-settled : goal.landed-answer-requires-clause-settled
landed-answer-requires-clause-settled g c = λ κs within.
    serves_settled c.args.desks.now.items c.serve_state.new.desks.items c.args.slot c.args.place.now.state
    c.serve_state.new.state c.requires.settled c.serve_state.ensures.serves

pub landed-answer-requires-clause-fits : goal.landed-answer-requires-clause-fits
landed-answer-requires-clause-fits g c = λ κs within.
    let len = c.args.desks.now.ok in let new = c.serve_state.ensures.len in
    let f = serves_fit c.args.desks.now.items c.serve_state.new.desks.items c.args.slot _ c.args.place.now.state
    c.serve_state.new.state c.requires.ready.at c.requires.ready.to
    c.serve_state.ensures.serves in let a = f.0 in omega arith

pub landed-answer-requires-clause-few : goal.landed-answer-requires-clause-few
landed-answer-requires-clause-few g c = λ κs within.
    let a = c.requires.ready.few in
    let k = (serves_keeps (λ half. g.H.DataTraveller.slot_at (g.H.DataTraveller.name half)) g.H.DataTraveller.item_slot g.H.DataTraveller.handled
    c.args.slot [] [] c.args.desks.now.items c.serve_state.new.desks.items c.args.place.now.state
    c.serve_state.new.state c.requires.ready.law c.serve_state.ensures.serves).orders in omega arith

pub landed-answer-requires-clause-law : goal.landed-answer-requires-clause-law
landed-answer-requires-clause-law g c = λ κs within.
    serves_law (λ half. g.H.DataTraveller.slot_at (g.H.DataTraveller.name half)) g.H.DataTraveller.item_slot c.args.slot
    c.args.desks.now.items c.serve_state.new.desks.items c.args.place.now.state c.serve_state.new.state
    c.requires.ready.law
    c.serve_state.ensures.serves

pub returns-clause-delivers : goal.returns-clause-delivers
returns-clause-delivers g c = record {
  mid = c.serve_state.new.desks.items;
  serves = c.serve_state.ensures.serves;
  lands = c.landed-answer.ensures.lands;
}

pub returns-clause-accepted : goal.returns-clause-accepted
returns-clause-accepted g c =
    accepts_any c.args.item c.args.slot c.args.place.now.accepted.items c.and-more.result.items
    c.accept.new.accepted.items c.and-more.ensures c.landed-answer.result
    c.accept.ensures.ok c.accept.ensures.err
    (lands_back c.args.item c.serve_state.new.state c.landed-answer.result _ _ c.landed-answer.ensures.lands)
