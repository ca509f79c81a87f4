use Rattle.std.proofs.Common.{◌≡◌, ◌-◌, ◌≤◌, length}
use Rattle.epoch_schedule.specs.Parts.{met_behind}
use Rattle.epoch_schedule.proofs.halves.close_rest.Given as goal

abbrev pub invariant-loop : goal.invariant-loop
invariant-loop l = record {
  known : l.known ≤ length l.commands;
  ahead : met_behind l.commands l.known l.met (l.rest - l.counter)
      ≡ met_behind l.commands l.learnt l.fn.met l.rest;
}
