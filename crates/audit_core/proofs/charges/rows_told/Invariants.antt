use Rattle.std.proofs.Common.{◌≡◌, take}
use Rattle.std.specs.List.{filter_map}
use Rattle.audit_core.specs.Agreeing.{lent}
use Rattle.audit_core.specs.Belonging.{row_of}
use Rattle.audit_core.specs.Matched.{entries_stood}
use Rattle.audit_core.proofs.charges.rows_told.Given as goal

abbrev pub invariant-loop-stood : goal.invariant-loop-stood
invariant-loop-stood l = lent l.all.items ≡ filter_map row_of (entries_stood (take l.stood-index l.entries))
