use Rattle.std.proofs.Common.{◌≡◌, ◌++◌, List, map, take}
use Rattle.balance_plan.specs.Plans.{move_line}
use Rattle.balance_plan.specs.Written.{Written, planned}
use Rattle.balance_plan.specs.Writing.{IsWriter, Stands}
use Rattle.balance_plan.proofs.writing.Writer.push_moves.Given as goal

abbrev pub invariant-loop-step : goal.invariant-loop-step
invariant-loop-step l = record {
  writer : IsWriter l.self;
  book : l.self.book ≡ l.fn.self.book;
  slices : l.self.slices ≡ l.fn.self.slices;
  most : l.self.most ≡ l.fn.self.most;
  lines : l.self.lines ≡ l.fn.self.lines;
  fence : l.self.fence ≡ l.fn.self.fence;
  stands : (written : List Written) → Stands l.fn.self written → Stands l.self
      (written ++ map planned (map (move_line l.fence l.fn.self.book) (take l.step-index l.steps)));
}
