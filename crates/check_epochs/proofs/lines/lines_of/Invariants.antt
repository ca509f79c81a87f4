use Rattle.std.proofs.Common.{◌≡◌, ◌≤◌, length}
use Rattle.at_rest.specs.Coming.{AreLater, latest_behind}
use Rattle.check_epochs.proofs.lines.lines_of.Given as goal

abbrev pub invariant-loop-text : goal.invariant-loop-text
invariant-loop-text l = record {
  later : AreLater 0 l.lines.items;
  latest : latest_behind 0 l.lines.items ≡ l.latest;
  few : length l.lines.items ≤ 1000000;
}
