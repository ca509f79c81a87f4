use Rattle.std.proofs.Common.{◌≡◌, ◌≤◌, take}
use Rattle.balance_plan.specs.Writing.{HasWritten, IsWriter}
use Rattle.balance_plan.proofs.balancing.text_with_moves.Given as goal

abbrev pub invariant-loop-line : goal.invariant-loop-line
invariant-loop-line l = record {
  writer : IsWriter l.writer;
  slices : l.writer.slices ≡ l.slices;
  most : l.writer.most ≡ l.most;
  count : l.writer.lines ≡ l.line-index;
  before : l.writer.fence ≤ l.writer.lines;
  written : HasWritten l.writer l.told.entries.now (take l.line-index l.lines);
}
