use Rattle.std.proofs.Common.{◌≡◌, None, length}
use Rattle.split_record.specs.Origin.{IsClosing, commands_left}
use Rattle.split_record.proofs.closing.Closing.apply_all.Given as goal

abbrev pub invariant-loop-self : goal.invariant-loop-self
invariant-loop-self l = record {
  at : IsClosing l.origin l.self;
  kept : l.self.control.kept ≡ None;
  due : l.self.control.due ≡ None;
}

abbrev pub decreases-loop-self : goal.decreases-loop-self
decreases-loop-self l = length (commands_left l.self)
