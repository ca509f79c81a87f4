use Rattle.demux.proofs.AnswerLemmas.{echo_response_fits}
use Rattle.demux.proofs.mme.echo_response.Goals as goal

pub invariant_of-result : goal.invariant_of-result
invariant_of-result c = rw (c.of.ensures, c.in_ok-vec.ensures.items) (echo_response_fits c.args.seq c.requires)
