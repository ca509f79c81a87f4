use Rattle.std.proofs.Common.{map, take}
use Rattle.audit_core.specs.Dues.{StandsSo, entry_due}
use Rattle.audit_core.specs.Matched.{entries_stood}
use Rattle.audit_core.proofs.piece_order.differs.Given as goal

abbrev pub invariant-loop-at : goal.invariant-loop-at
invariant-loop-at l = StandsSo (entries_stood l.entries) (map entry_due (take l.at l.due)) l.at
