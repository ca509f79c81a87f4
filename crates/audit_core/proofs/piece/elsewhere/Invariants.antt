use Rattle.std.proofs.Common.{◌≡◌, None, find, take}
use Rattle.audit_core.specs.Entries.{line_entries}
use Rattle.audit_core.specs.Matched.{entries_stood}
use Rattle.audit_core.specs.Pieces.{is_elsewhere}
use Rattle.audit_core.proofs.piece.elsewhere.Given as goal

abbrev pub invariant-loop-stood : goal.invariant-loop-stood
invariant-loop-stood l =
    find (is_elsewhere l.before l.count) (line_entries (entries_stood (take l.stood-index l.entries))) ≡ None
