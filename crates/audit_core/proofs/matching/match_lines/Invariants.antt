use Rattle.std.proofs.Common.{length}
use Rattle.audit_core.specs.Entries.{line_entries}
use Rattle.audit_core.specs.Kept.{meanings_in}
use Rattle.audit_core.specs.Matched.{AreFound, entries_stood, lent_entry}
use Rattle.audit_core.proofs.MetLemmas.{Met}
use Rattle.audit_core.proofs.matching.match_lines.Given as goal

abbrev pub invariant-loop-i : goal.invariant-loop-i
invariant-loop-i l = record {
  found : AreFound l.first (line_entries (entries_stood l.entries)) l.found.items (length l.lines);
  met : Met l.first (meanings_in l.octets l.lines) (line_entries (entries_stood l.entries)) l.i l.told.items
      (lent_entry l.again);
}
