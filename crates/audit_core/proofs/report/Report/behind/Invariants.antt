use Rattle.std.proofs.Common.{◌<◌, All, List, drop, length, map}
use Rattle.report_lines.specs.Ranges.{IsEntry}
use Rattle.report_lines.specs.Text.{entry_text}
use Rattle.report_lines.specs.declared.entry.Entry.{Entry}
use Rattle.audit_core.specs.Packed.{KeepsFrom}
use Rattle.audit_core.proofs.report.Report.behind.Given as goal

abbrev pub invariant-loop-i : goal.invariant-loop-i
invariant-loop-i l = (own : List Entry) → All IsEntry own → l.count < length own
    → KeepsFrom l.self.texts l.from (map entry_text own) → KeepsFrom l.self.texts l.at (map entry_text (drop l.i own))
