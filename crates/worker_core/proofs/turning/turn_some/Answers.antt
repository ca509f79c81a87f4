use Rattle.std.proofs.Common.{rules, ◌∙◌, ap, subst, arith, inr, ℕ, ◌≡◌, ◌<◌, length}
use Rattle.lane_core.specs.declared.did.Did.{Did}
use Rattle.lane_core.specs.declared.did.Did.TheVariants.{Worked}
use Rattle.std.specs.Prelude.{Ok}
use Rattle.std.specs.declared.alloc.AllocError.{AllocError}
use Rattle.worker_core.specs.Turns.{works_after}
use Rattle.worker_core.specs.Answered.{AllRest}
use Rattle.worker_core.proofs.Rounds.{names_kept, turned_more, idle_more, worked_alone, idle_after, rest_more}
use Rattle.worker_core.proofs.Rounds.{rest_still, answers_here}
use Rattle.worker_core.proofs.turning.turn_some.Goals as goal

pub returns-in_err-turn-clause-names : goal.returns-in_err-turn-clause-names
returns-in_err-turn-clause-names g c =
    names_kept g.H.Traveller.name _ _ _ _ c.index_mut.ensures.value c.turn.ensures.name ∙ c.loop-i.invariant.0

pub returns-in-Worked-clause-names : goal.returns-in-Worked-clause-names
returns-in-Worked-clause-names g c =
    names_kept g.H.Traveller.name _ _ _ _ c.index_mut.ensures.value c.turn.ensures.name ∙ c.loop-i.invariant.0

pub returns-in-Worked-clause-worked : goal.returns-in-Worked-clause-worked
returns-in-Worked-clause-worked g c =
    let long : length c.loop-i.held.items ≡ length c.args.held.now.items = let a = c.loop-i.held.ok in let b =
    c.args.held.now.ok in omega arith in
    let within : c.loop-i.i < length c.loop-i.held.items = omega arith in (
      (omega arith),
      (omega arith),
      turned_more g.H.Traveller.turns g.H.Traveller.turned_at c.args.place _ _ _ _ _ _ c.loop-i.invariant.2
          (omega arith) long within
          c.index_mut.ensures.value c.turn.ensures.turns c.turn.ensures.place,
      worked_alone g.H.Traveller.works _ _ _ _ _ c.loop-i.invariant.3 long within c.index_mut.ensures.value
          (c.turn.ensures.works ∙ ap (λ r. works_after r (g.H.Traveller.works c.index_mut.result.now))
          (c.in_ok-turn.was ∙ ap Ok c.in-Worked.is)),
    )

pub loop-i-preserved : goal.loop-i-preserved
loop-i-preserved g c =
    let long : length c.loop-i.held.items ≡ length c.args.held.now.items = let a = c.loop-i.held.ok in let b =
    c.args.held.now.ok in omega arith in
    let within : c.loop-i.i < length c.loop-i.held.items = omega arith in (
      names_kept g.H.Traveller.name _ _ _ _ c.index_mut.ensures.value c.turn.ensures.name ∙ c.loop-i.invariant.0,
      c.loop-i.invariant.1,
      turned_more g.H.Traveller.turns g.H.Traveller.turned_at c.args.place _ _ _ _ _ _ c.loop-i.invariant.2
          (omega arith) long within
          c.index_mut.ensures.value c.turn.ensures.turns c.turn.ensures.place,
      idle_more g.H.Traveller.works _ _ _ _ _ c.loop-i.invariant.3 within c.index_mut.ensures.value
          (c.turn.ensures.works ∙ ap (λ r. works_after r (g.H.Traveller.works c.index_mut.result.now)) c.in_ok-turn.was
          ∙ idle_after AllocError c.in_ok-turn.field-0 (g.H.Traveller.works c.index_mut.result.now)
          c.in_default.not-Worked),
      rest_more (g.H.Traveller.came_to 8) c.in_ok-turn.field-0 _ _ _ _ _ _ c.loop-i.invariant.4
          (λ none. c.loop-i.invariant.2.others c.loop-i.i none (inr (omega arith))) within c.index_mut.ensures.value
          c.in_default.not-Worked c.in_ok-turn.ensures.came,
    )

pub returns-in-Worked-clause-answers : goal.returns-in-Worked-clause-answers
returns-in-Worked-clause-answers g c =
    let long : length c.loop-i.held.items ≡ length c.args.held.now.items = let a = c.loop-i.held.ok in let b =
    c.args.held.now.ok in omega arith in
    let within : c.loop-i.i < length c.loop-i.held.items = omega arith in (
      rest_still (g.H.Traveller.came_to 8) _ _ _ _ _ c.loop-i.invariant.4,
      answers_here (g.H.Traveller.came_to 8) Worked _ _ _ _ _
          (λ none. c.loop-i.invariant.2.others c.loop-i.i none (inr (omega arith))) within c.index_mut.ensures.value
          (subst (λ (did : Did). g.H.Traveller.came_to 8 did c.index_mut.result.now c.turn.new.self) c.in-Worked.is
          c.in_ok-turn.ensures.came),
    )

pub returns-clause-rests : goal.returns-clause-rests
returns-clause-rests g c = λ _.
    let all : c.loop-i.i ≡ c.args.to = search (rules, arith) in
    subst (λ (n : ℕ). AllRest (g.H.Traveller.came_to 8) c.args.from n c.args.held.now.items c.loop-i.held.items) all
    c.loop-i.invariant.4
