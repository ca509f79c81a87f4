use Rattle.std.proofs.Common.{◌∷◌, refl, sym, ap}
use Rattle.std.specs.Option.{option_map}
use Rattle.bearer_state.proofs.ListLemmas.{filter_map_skipped, filter_map_pushed}
use Rattle.control_steps.specs.declared.cause.TheConstants.{REQUEST_ACCEPTED}
use Rattle.control_steps.specs.Messages.{accepted, ask_accepted, cause_element}
use Rattle.control_steps.proofs.messages.asks_accepted.Goals as goal
use Rattle.control_steps.proofs.messages.asks_accepted.Goals.{in-Some+in_ok-accepted-in-Some+in_ok-push-in-Some, in-None}

pub loop-ask-preserved : goal.loop-ask-preserved
loop-ask-preserved c =
    elim c.match-active_index.branch [
      | in-Some+in_ok-accepted-in-Some+in_ok-push-in-Some w ↦
          let index_is = w.in-Some.ensures.value in
          let given = ap (option_map (accepted c.args.slot c.ask-item.result.ebi)) (sym index_is) in
          let pushed = filter_map_pushed (ask_accepted c.args.slot c.args.bearers.now) c.args.asks.now
          c.loop-ask.ask-index c.ask-item.result _ _ c.loop-ask-test.true c.ask-item.is given refl in
          rw (w.ies-is, w.in_ok-push-in-Some.ensures.items, c.loop-ask.invariant, w.in_ok-accepted-in-Some.ensures)
          (ap (λ rest. cause_element REQUEST_ACCEPTED ∷ rest) pushed)
      | in-None w ↦
          let given = ap (option_map (accepted c.args.slot c.ask-item.result.ebi)) (sym w.in-None.ensures.value) in
          let kept = filter_map_skipped (ask_accepted c.args.slot c.args.bearers.now) c.args.asks.now
          c.loop-ask.ask-index c.ask-item.result _ c.loop-ask-test.true c.ask-item.is given refl in
          rw (w.ies-is, c.loop-ask.invariant) (ap (λ rest. cause_element REQUEST_ACCEPTED ∷ rest) kept)
    ]
