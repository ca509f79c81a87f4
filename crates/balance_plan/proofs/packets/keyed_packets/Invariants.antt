use Rattle.std.proofs.Common.{◌≡◌, take}
use Rattle.std.specs.List.{filter_map}
use Rattle.balance_plan.specs.Packets.{packet_in}
use Rattle.balance_plan.proofs.packets.keyed_packets.Given as goal

abbrev pub invariant-loop-entry : goal.invariant-loop-entry
invariant-loop-entry l = l.keyed.items ≡ filter_map packet_in (take l.entry-index l.entries)
