use Rattle.trace_lines.specs.Epochs.{epochs_of}
use Rattle.lawful_run.specs.Trace.{epochs_told, slots_of}
use Rattle.drive_command.specs.Driven.{rooms_in, turns_by_epoch}
use Rattle.drive_command.proofs.drive_laws.driven_reports_are_lawful.Goals as goal

pub returns-clause-lawful : goal.returns-clause-lawful
returns-clause-lawful c = λ schedule input report is.
    c.driven_runs_are_lawful.ensures schedule.slices schedule.room schedule.lane
    (turns_by_epoch schedule.turns schedule.slices (epochs_of input.lines)) (slots_of input)
    (epochs_told schedule.slices input) report is

pub returns-clause-each : goal.returns-clause-each
returns-clause-each c = λ schedule input.
    c.each_schedule_is_driven.ensures.run (rooms_in schedule) schedule.slices
    (turns_by_epoch schedule.turns schedule.slices (epochs_of input.lines)) (slots_of input)
    (epochs_told schedule.slices input)

pub returns-clause-one : goal.returns-clause-one
returns-clause-one c = λ schedule input one other is too.
    c.one_is_driven.ensures.run (rooms_in schedule) schedule.slices
    (turns_by_epoch schedule.turns schedule.slices (epochs_of input.lines)) (slots_of input)
    (epochs_told schedule.slices input) one other is too
