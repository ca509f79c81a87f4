use Rattle.trace_run.specs.Beginnings.{whole_input}
use Rattle.trace_run.proofs.EndingLemmas.{nothing_runs}
use Rattle.replay_command.proofs.running.run_report_in_blocks.Goals as goal

pub returns-in-Err-clause-runs : goal.returns-in-Err-clause-runs
returns-in-Err-clause-runs g c = nothing_runs whole_input _ _ _ _ _ c.requires.nothing
