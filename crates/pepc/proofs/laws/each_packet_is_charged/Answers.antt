use Rattle.lawful_run.specs.Setup.{slices_of, solo}
use Rattle.lawful_run.specs.Trace.{epochs_told, slots_of}
use Rattle.lawful_run.proofs.LedgerLaws.{reports_are_partitions}
use Rattle.pepc.specs.Replay.{setup_asked}
use Rattle.solo_command.specs.Report.{slices}
use Rattle.pepc.proofs.laws.each_packet_is_charged.Goals as goal

pub returns-clause-sequential : goal.returns-clause-sequential
returns-clause-sequential c = λ input text written slot life within.
    reports_are_partitions solo (slots_of input) (epochs_told slices input) written.report slot life
    written.allowed.lawful within

pub returns-clause-replayed : goal.returns-clause-replayed
returns-clause-replayed c = λ lanes places input text written slot life within.
    reports_are_partitions (setup_asked lanes) (slots_of input) (epochs_told (slices_of (setup_asked lanes)) input)
    written.report slot life written.allowed within
