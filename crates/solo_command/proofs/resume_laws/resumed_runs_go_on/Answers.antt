use Rattle.solo_command.proofs.ResumeRuns.{runs_go_on}
use Rattle.solo_command.proofs.resume_laws.resumed_runs_go_on.Goals as goal

pub returns : goal.returns
returns c = runs_go_on c.texts_say_their_states.ensures c.lines_say_one_state.ensures c.resumed_goes_on.ensures.texts
