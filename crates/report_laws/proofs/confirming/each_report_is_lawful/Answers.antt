use Rattle.pepc.specs.Drive.{schedule_asked}
use Rattle.report_laws.proofs.confirming.each_report_is_lawful.Goals as goal

pub returns : goal.returns
returns c = record {
  sequential = λ input report is. is.lawful;
  driven = λ lanes turns input report is.
      c.driven_reports_are_lawful.ensures.lawful (schedule_asked lanes turns) input report is;
  replayed = λ lanes input report is. is;
}
