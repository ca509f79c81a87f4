use Rattle.control_steps.proofs.MessageLemmas.{update_bearer_request_fits}
use Rattle.control_steps.proofs.messages.update_bearer_request.Goals as goal

pub invariant_of-result : goal.invariant_of-result
invariant_of-result c =
    rw (c.of.ensures, c.in_ok-ies.ensures.items, c.changed_context.ensures, c.up.view_is, c.down.view_is)
    (update_bearer_request_fits c.args.teid c.args.seq c.args.ebi c.args.tft c.args.up c.args.down
    c.ranges.teid.fits c.requires.seq c.requires.tft)
