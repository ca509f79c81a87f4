use Rattle.std.proofs.Common.{◌≤◌, length, take}
use Rattle.audit_core.specs.Belonging.{AreRunsFrom, epochs_of}
use Rattle.audit_core.proofs.report.Report.at.Given as goal

abbrev pub invariant-loop-k : goal.invariant-loop-k
invariant-loop-k l = AreRunsFrom 0 l.self.runs.items → length (epochs_of (take l.k l.self.runs.items)) ≤ l.place
