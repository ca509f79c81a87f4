use Rattle.std.proofs.Common.{◌≡◌, ◌-◌}
use Rattle.epoch_schedule.specs.Numbers.{times}
use Rattle.epoch_schedule.specs.Halves.{learn_one, learn}
use Rattle.epoch_schedule.proofs.slot.SlotNumbers.learn.Given as goal

abbrev pub invariant-loop : goal.invariant-loop
invariant-loop l = times (16 - l.counter) learn_one l.self ≡ learn l.fn.self
