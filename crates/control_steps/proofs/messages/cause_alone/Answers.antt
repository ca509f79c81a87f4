use Rattle.control_steps.proofs.MessageLemmas.{cause_alone_fits}
use Rattle.control_steps.proofs.messages.cause_alone.Goals as goal

pub invariant_of-result : goal.invariant_of-result
invariant_of-result c =
    rw (c.of.ensures, c.in_ok-vec.ensures.items, c.cause_element.ensures)
    (cause_alone_fits c.args.teid c.args.request c.args.seq c.args.code c.ranges.teid.fits c.requires.request
    c.requires.seq)
