use Rattle.solo_command.proofs.ReportLemmas.{says_nothing}
use Rattle.solo_command.proofs.RunLemmas.{begins}
use Rattle.solo_command.proofs.run.run_solo.Goals as goal

pub run_report-requires-clause-first : goal.run_report-requires-clause-first
run_report-requires-clause-first g c =
    begins c.new.result c.new.ensures.stands c.new.ensures.gateway (c.new.ensures.waits _)

pub run_report-requires-clause-nothing : goal.run_report-requires-clause-nothing
run_report-requires-clause-nothing g c = says_nothing
