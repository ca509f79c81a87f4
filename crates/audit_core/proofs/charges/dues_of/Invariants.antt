use Rattle.std.proofs.Common.{◌≡◌, map, take}
use Rattle.audit_core.specs.Entries.{slot_charged}
use Rattle.audit_core.proofs.AmongLemmas.{keyed_by}
use Rattle.audit_core.proofs.charges.dues_of.Given as goal

abbrev pub invariant-loop-charge : goal.invariant-loop-charge
invariant-loop-charge l = l.keyed.items ≡ map (keyed_by slot_charged) (take l.charge-index l.due)
