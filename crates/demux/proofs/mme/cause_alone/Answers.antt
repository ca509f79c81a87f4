use Rattle.control_steps.proofs.MessageLemmas.{cause_alone_fits}
use Rattle.demux.proofs.mme.cause_alone.Goals as goal

pub invariant_of-message : goal.invariant_of-message
invariant_of-message c =
    rw (c.of.ensures, c.in_ok-vec.ensures.items)
    (cause_alone_fits c.args.teid c.args.request c.args.seq c.args.code c.ranges.teid.fits c.requires.request
    c.requires.seq)
