use Rattle.std.proofs.Common.{◌≡◌, ◌+◌, ◌-◌, refl, sym, ap, ◌∙◌, arith}
use Rattle.epoch_schedule.specs.Numbers.{times}
use Rattle.epoch_schedule.specs.Halves.{learn_one, learn}
use Rattle.epoch_schedule.proofs.Loops.{times_less, times_stuck}
use Rattle.epoch_schedule.proofs.slot.SlotNumbers.learn.Goals as goal

pub loop-init : goal.loop-init
unfolding learn
loop-init c = refl

pub loop-preserved : goal.loop-preserved
loop-preserved c =
    let test = c.loop-test.true in
    ap (times (16 - (c.loop.counter + 1)) learn_one) c.learn_one.ensures
    ∙ sym (times_less learn_one 16 c.loop.counter c.loop.self (omega (arith, test))) ∙ c.loop.invariant

pub returns : goal.returns
returns c =
    let test = c.loop-test.false in
    let none : 16 - c.loop.counter ≡ 0 = omega (arith, test) in
    sym (ap (λ n. times n learn_one c.loop.self) none) ∙ c.loop.invariant

pub returns-then-is_stuck : goal.returns-then-is_stuck
returns-then-is_stuck c =
    sym (times_stuck learn_one (16 - c.loop.counter) c.loop.self c.if-is_stuck.ensures)
    ∙ c.loop.invariant
