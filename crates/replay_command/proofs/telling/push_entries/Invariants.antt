use Rattle.std.proofs.Common.{◌≡◌, ◌++◌, map, take}
use Rattle.front_core.specs.Filled.{entry_told}
use Rattle.trace_run.specs.Entries.{lines_text}
use Rattle.replay_command.proofs.telling.push_entries.Given as goal

abbrev pub invariant-loop-entry : goal.invariant-loop-entry
invariant-loop-entry l =
    l.report ≡ l.initial.report ++ lines_text l.places (map entry_told (take l.entry-index l.entries))
