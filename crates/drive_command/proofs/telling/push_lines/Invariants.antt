use Rattle.std.proofs.Common.{◌≡◌, ◌++◌, map, take}
use Rattle.epoch_drive.specs.Telling.{line_told}
use Rattle.trace_run.specs.Entries.{lines_text}
use Rattle.drive_command.proofs.telling.push_lines.Given as goal

abbrev pub invariant-loop-entry : goal.invariant-loop-entry
invariant-loop-entry l = l.report ≡ l.initial.report ++ lines_text l.places (map line_told (take l.entry-index l.told))
