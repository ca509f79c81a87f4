use Rattle.std.proofs.Common.{◌≡◌}
use Rattle.split_record.specs.Closing.{to_learn}
use Rattle.split_record.specs.Origin.{IsClosing, items_left}
use Rattle.split_record.proofs.closing.Closing.learn_met.Given as goal

abbrev pub invariant-loop : goal.invariant-loop
invariant-loop l = record {
  at : IsClosing l.origin l.self;
  control : l.self.control ≡ l.fn.self.control;
  left : items_left l.self ≡ items_left l.fn.self;
}

abbrev pub decreases-loop : goal.decreases-loop
decreases-loop l = to_learn l.self.taken l.self.batches.items
