use Rattle.control_steps.proofs.MessageLemmas.{delete_bearer_request_fits}
use Rattle.control_steps.proofs.messages.delete_bearer_request.Goals as goal

pub invariant_of-result : goal.invariant_of-result
invariant_of-result c =
    rw (c.of.ensures, c.in_ok-ies.ensures.items)
    (delete_bearer_request_fits c.args.teid c.args.seq c.args.ebi c.ranges.teid.fits c.requires.seq)
