use Rattle.std.proofs.Common.{◌≡◌, ◌∷◌, take}
use Rattle.std.specs.List.{filter_map}
use Rattle.control_steps.specs.declared.cause.TheConstants.{REQUEST_ACCEPTED}
use Rattle.control_steps.specs.Messages.{cause_element, ask_accepted}
use Rattle.control_steps.proofs.messages.asks_accepted.Given as goal

abbrev pub invariant-loop-ask : goal.invariant-loop-ask
invariant-loop-ask l =
    l.ies.items ≡ cause_element REQUEST_ACCEPTED ∷ filter_map (ask_accepted l.slot l.bearers) (take l.ask-index l.asks)
