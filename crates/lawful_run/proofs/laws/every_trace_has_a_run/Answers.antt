-- proofs/laws/every_trace_has_a_run/Answers.antt
use Rattle.lawful_run.proofs.EveryTrace.{answered_is_run, answered_run_in_sequence}
use Rattle.lawful_run.specs.Setup.{slices_of}
use Rattle.lawful_run.specs.Trace.{slots_of, epochs_told}
use Rattle.lawful_run.proofs.laws.every_trace_has_a_run.Goals as goal

pub returns-clause-lawful : goal.returns-clause-lawful
returns-clause-lawful c = answered_is_run

pub returns-clause-in_sequence : goal.returns-clause-in_sequence
returns-clause-in_sequence c = answered_run_in_sequence

pub returns-clause-report : goal.returns-clause-report
returns-clause-report c = λ setup input. answered_is_run setup (slots_of input) (epochs_told (slices_of setup) input)
