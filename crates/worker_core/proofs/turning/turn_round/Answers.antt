use Rattle.std.proofs.Common.{rules, arith}
use Rattle.worker_core.proofs.Rounds.{then_idle, then_worked, then_rests, then_answers, first_answers}
use Rattle.worker_core.proofs.turning.turn_round.Goals as goal

pub returns-in-None-clause-idle : goal.returns-in-None-clause-idle
returns-in-None-clause-idle g c =
    let a = c.args.held.now.ok in let b = c.turn_some.new.held.ok in let d = c.turn_some-in-None.new.held.ok in
    then_idle g.H.Traveller.turns g.H.Traveller.works g.H.Traveller.turned_at c.args.place c.args.cursor
    c.len-end.result _ _ _
    (omega arith) (omega arith) (omega arith) (omega arith)
    (c.in_ok-at.ensures.idle (search rules)) _ c.turn_some-in-None.ensures.idle

pub returns-in-None-clause-worked : goal.returns-in-None-clause-worked
returns-in-None-clause-worked g c =
    let a = c.args.held.now.ok in let b = c.turn_some.new.held.ok in let d = c.turn_some-in-None.new.held.ok in
    then_worked g.H.Traveller.turns g.H.Traveller.works g.H.Traveller.turned_at c.args.place c.args.cursor
    c.len-end.result _ _ _
    (omega arith) (omega arith) (omega arith) (omega arith)
    (c.in_ok-at.ensures.idle (search rules)) _ c.turn_some-in-None.ensures.worked

pub returns-in-None-clause-rests : goal.returns-in-None-clause-rests
returns-in-None-clause-rests g c =
    let a = c.args.held.now.ok in let b = c.turn_some.new.held.ok in
    then_rests (g.H.Traveller.came_to 8) g.H.Traveller.turns g.H.Traveller.turned_at g.H.Traveller.works c.args.place
    c.args.cursor c.len-end.result _ _ _ (omega arith) (omega arith)
    (c.in_ok-at.ensures.idle (search rules)) (c.in_ok-at.ensures.rests (search rules)) _
    c.turn_some-in-None.ensures.idle c.turn_some-in-None.ensures.rests

pub returns-in-None-clause-answers : goal.returns-in-None-clause-answers
returns-in-None-clause-answers g c =
    let a = c.args.held.now.ok in let b = c.turn_some.new.held.ok in
    then_answers (g.H.Traveller.came_to 8) g.H.Traveller.turns g.H.Traveller.turned_at g.H.Traveller.works c.args.place
    c.args.cursor c.len-end.result _ _ _ (omega arith) (omega arith)
    (c.in_ok-at.ensures.idle (search rules)) (c.in_ok-at.ensures.rests (search rules)) _
    c.turn_some-in-None.ensures.worked c.turn_some-in-None.ensures.answers

pub returns-in-Some-clause-answers : goal.returns-in-Some-clause-answers
returns-in-Some-clause-answers g c =
    let a = c.args.held.now.ok in
    first_answers (g.H.Traveller.came_to 8) g.H.Traveller.turns g.H.Traveller.works g.H.Traveller.turned_at
    c.args.place c.args.cursor c.len-end.result _ _ _ c.in-Some.at (omega arith) (search rules)
    c.in_ok-at.ensures.worked c.in_ok-at.ensures.answers
