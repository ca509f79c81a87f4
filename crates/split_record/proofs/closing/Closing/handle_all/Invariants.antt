use Rattle.std.proofs.Common.{length}
use Rattle.split_record.specs.Origin.{IsClosing, IsApplied, items_left}
use Rattle.split_record.proofs.closing.Closing.handle_all.Given as goal

abbrev pub invariant-loop : goal.invariant-loop
invariant-loop l = record {
  at : IsClosing l.origin l.self;
  applied : IsApplied l.origin l.self;
}

abbrev pub decreases-loop : goal.decreases-loop
decreases-loop l = length (items_left l.self)
