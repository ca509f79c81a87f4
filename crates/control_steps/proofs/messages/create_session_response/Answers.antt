use Rattle.control_steps.proofs.MessageLemmas.{create_session_response_fits}
use Rattle.control_steps.proofs.messages.create_session_response.Goals as goal

pub invariant_of-result : goal.invariant_of-result
invariant_of-result c =
    rw (
      c.of.ensures,
      c.in_ok-ies.ensures.items,
      c.cause_element.ensures,
      c.pdn_cause.ensures,
      c.control_end.ensures.value,
      c.user_address.ensures,
      c.in_ok-accepted.ensures,
    )
    (create_session_response_fits c.args.slot c.args.teid c.args.seq c.args.pdn c.args.ebi c.ranges.teid.fits
    c.requires.seq)
