use Rattle.drive_command.specs.Standing.{schedule_of}
use Rattle.drive_command.proofs.Reports.{says_nothing}
use Rattle.pepc.proofs.drive.drive.Goals as goal

pub run_report-requires-clause-nothing : goal.run_report-requires-clause-nothing
run_report-requires-clause-nothing g c = says_nothing (schedule_of c.new-driver.result) c.new-driver.result.places
