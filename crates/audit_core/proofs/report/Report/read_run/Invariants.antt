use Rattle.std.proofs.Common.{◌≡◌, ◌++◌}
use Rattle.lawful_run.specs.Telling.{counted}
use Rattle.audit_core.specs.Matched.{entries_stood, places_stood}
use Rattle.audit_core.proofs.ReadLemmas.{ReadsIn}
use Rattle.audit_core.proofs.report.Report.read_run.Given as goal

abbrev pub invariant-loop-i : goal.invariant-loop-i
invariant-loop-i l = record {
  entries : ReadsIn l.self.texts l.run (entries_stood l.fn.all.items) l.at l.i l.all.items;
  places : places_stood l.all.items ≡ places_stood l.fn.all.items ++ counted l.run.first l.i;
}
