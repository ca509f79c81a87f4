use Rattle.lawful_run.proofs.Answers.{answers_short}
use Rattle.lawful_run.proofs.range_laws.answers_are_short.Goals as goal

pub returns : goal.returns
returns c = answers_short
