use Rattle.solo_command.proofs.StateLemmas.{one_state, told_exactly}
use Rattle.solo_command.proofs.resume_laws.states_are_told.Goals as goal

pub returns-clause-exactly : goal.returns-clause-exactly
returns-clause-exactly c = told_exactly

pub returns-clause-one : goal.returns-clause-one
returns-clause-one c = one_state c.lines_say_one_state.ensures
