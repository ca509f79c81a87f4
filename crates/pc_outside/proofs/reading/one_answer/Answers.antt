use Rattle.pc_outside.proofs.OneAnswerCases.{one_answer}
use Rattle.pc_outside.proofs.reading.one_answer.Goals as goal

pub returns : goal.returns
returns c = one_answer
