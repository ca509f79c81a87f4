use Rattle.std.proofs.Common.{◌≡◌, ◌++◌, map, take, drop}
use Rattle.epoch_schedule.specs.Rosters.{mark_entry}
use Rattle.epoch_schedule.proofs.roster.mark_each.Given as goal

abbrev pub invariant-loop-index : goal.invariant-loop-index
invariant-loop-index l =
    l.halves.items
    ≡ map (mark_entry l.slot l.until) (take l.index l.fn.halves.items) ++ drop l.index l.fn.halves.items
