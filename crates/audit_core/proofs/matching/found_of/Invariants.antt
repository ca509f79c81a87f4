use Rattle.std.proofs.Common.{take}
use Rattle.audit_core.specs.Entries.{line_entries}
use Rattle.audit_core.specs.Matched.{AreFound, entries_stood}
use Rattle.audit_core.proofs.matching.found_of.Given as goal

abbrev pub invariant-loop-stood : goal.invariant-loop-stood
invariant-loop-stood l =
    AreFound l.first (line_entries (entries_stood (take l.stood-index l.entries))) l.all.items l.count
