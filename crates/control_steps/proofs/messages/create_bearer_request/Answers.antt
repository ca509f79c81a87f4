use Rattle.control_steps.proofs.MessageLemmas.{create_bearer_request_fits}
use Rattle.control_steps.proofs.messages.create_bearer_request.Goals as goal

pub invariant_of-result : goal.invariant_of-result
invariant_of-result c =
    rw (c.of.ensures, c.in_ok-ies.ensures.items, c.in_ok-new_context.ensures)
    (create_bearer_request_fits c.args.slot c.args.teid c.args.seq c.args.linked c.args.bearer.index
    c.args.bearer.tft c.args.bearer.qos c.ranges.teid.fits c.requires.seq c.requires.tft)
