use Rattle.control_steps.proofs.MessageLemmas.{modify_bearer_response_fits}
use Rattle.control_steps.proofs.messages.modify_bearer_response.Goals as goal

pub invariant_of-result : goal.invariant_of-result
invariant_of-result c =
    rw (c.of.ensures, c.in_ok-ies.ensures)
    (modify_bearer_response_fits c.args.slot c.args.teid c.args.seq c.args.bearers.now c.args.asks.now
    c.ranges.teid.fits c.requires.seq c.requires.asks.few)
