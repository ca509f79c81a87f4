use Rattle.audit_core.proofs.ReadLemmas.{ReadsTo}
use Rattle.audit_core.proofs.report.Report.entries_of.Given as goal

abbrev pub invariant-loop-run : goal.invariant-loop-run
invariant-loop-run l = ReadsTo l.self.texts l.runs l.run-index l.all.items
