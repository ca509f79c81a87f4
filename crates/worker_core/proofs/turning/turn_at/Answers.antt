use Rattle.std.proofs.Common.{refl, arith}
use Rattle.worker_core.specs.Turns.{works_after}
use Rattle.worker_core.proofs.Rounds.{names_kept, turned_none, turned_more, counts_here, answers_so}
use Rattle.worker_core.proofs.turning.turn_at.Goals as goal

pub returns-clause-names : goal.returns-clause-names
returns-clause-names g c = names_kept g.H.Traveller.name _ _ _ _ c.index_mut.ensures.value c.turn.ensures.name

pub returns-clause-turned : goal.returns-clause-turned
returns-clause-turned g c =
    let a = c.args.held.now.ok in
    turned_more g.H.Traveller.turns g.H.Traveller.turned_at c.args.place c.args.at c.args.at _ _ _ _
    (turned_none g.H.Traveller.turns g.H.Traveller.turned_at c.args.place c.args.at _) (omega arith) refl (omega arith)
    c.index_mut.ensures.value c.turn.ensures.turns c.turn.ensures.place

pub returns-clause-works : goal.returns-clause-works
returns-clause-works g c =
    let a = c.args.held.now.ok in
    counts_here g.H.Traveller.works (works_after c.turn.result) c.args.at _ _ _ (omega arith)
    c.index_mut.ensures.value c.turn.ensures.works

pub returns-clause-answered : goal.returns-clause-answered
returns-clause-answered g c =
    let a = c.args.held.now.ok in
    answers_so (g.H.Traveller.came_to 8) c.turn.result c.args.at _ _ _ (omega arith) c.index_mut.ensures.value
    c.turn.ensures.came
