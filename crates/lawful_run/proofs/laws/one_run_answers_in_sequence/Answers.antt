use Rattle.lawful_run.proofs.OneRun.{run_is_one}
use Rattle.lawful_run.proofs.laws.one_run_answers_in_sequence.Goals as goal

pub returns : goal.returns
returns c = run_is_one
