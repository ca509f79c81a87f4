use Rattle.std.proofs.Common.{◌+◌, take, drop}
use Rattle.at_rest.specs.Coming.{AreLater}
use Rattle.front_core.specs.Words.{latest_in}
use Rattle.slice_core.specs.Lines.{TakesAll}
use Rattle.slice_core.proofs.lines.take_lines.Given as goal

abbrev pub invariant-loop-line : goal.invariant-loop-line
invariant-loop-line g l = record {
  takes : TakesAll (l.patience + 1) (take l.line-index l.lines) l.fn.front l.front;
  later : AreLater (latest_in l.front) (drop l.line-index l.lines);
}
