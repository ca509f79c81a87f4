use Rattle.std.proofs.Common.{◌≡◌, take}
use Rattle.std.specs.List.{filter_map}
use Rattle.slot_execution.specs.Replaying.{commands_lent}
use Rattle.audit_core.specs.Meant.{command_taken, lines_of}
use Rattle.audit_core.proofs.slots.commands_of.Given as goal

abbrev pub invariant-loop-told : goal.invariant-loop-told
invariant-loop-told l =
    commands_lent l.commands.items ≡ filter_map command_taken (lines_of (take l.told-index l.lines))
