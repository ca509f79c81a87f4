use Rattle.demux.proofs.RequestLemmas.{create_whole, answer_whole}
use Rattle.demux.proofs.laws.read_requests_are_whole.Goals as goal

pub returns-clause-create : goal.returns-clause-create
returns-clause-create c = create_whole

pub returns-clause-answer : goal.returns-clause-answer
returns-clause-answer c = answer_whole
