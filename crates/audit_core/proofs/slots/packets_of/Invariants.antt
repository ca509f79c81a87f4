use Rattle.std.proofs.Common.{◌≡◌, take}
use Rattle.std.specs.List.{filter_map}
use Rattle.slot_execution.specs.Replaying.{placed_lent}
use Rattle.audit_core.specs.Meant.{lines_of}
use Rattle.audit_core.specs.Played.{placed_in}
use Rattle.audit_core.proofs.slots.packets_of.Given as goal

abbrev pub invariant-loop-told : goal.invariant-loop-told
invariant-loop-told l = placed_lent l.packets.items ≡ filter_map placed_in (lines_of (take l.told-index l.lines))
