use Rattle.std.proofs.Common.{rules, ◌≡◌, ℕ, ◌<◌, List, length, subst}
use Rattle.epoch_schedule.specs.Numbers.{value_at}
use Rattle.epoch_schedule.specs.World.{ControlNow, fresh_control}
use Rattle.epoch_schedule.specs.Front.{control_home}
use Rattle.epoch_schedule.specs.Worlds.{world_of}
use Rattle.epoch_schedule.proofs.Loops.{each_more, each_done}
use Rattle.epoch_schedule.proofs.Spared.{controls_home_none}
use Rattle.epoch_schedule.proofs.homes.controls_home.Goals as goal

pub loop-slice-preserved : goal.loop-slice-preserved
loop-slice-preserved c = record {
  ahead = each_more (control_home) (length c.args.numbers.now.controls.items) c.loop-slice.slice
      (world_of c.loop-slice.numbers) _ _ (search rules) c.in_ok-control_home.ensures.world c.loop-slice.invariant.ahead;
  listed = c.in_ok-control_home.ensures.listed;
}

pub returns-clause-world : goal.returns-clause-world
returns-clause-world c =
    each_done (control_home) (length c.args.numbers.now.controls.items) c.loop-slice.slice
    (world_of c.loop-slice.numbers) _ (search rules) c.loop-slice.invariant.ahead

pub returns-then-are_control_homes_empty-clause-world : goal.returns-then-are_control_homes_empty-clause-world
returns-then-are_control_homes_empty-clause-world c =
    controls_home_none (world_of c.args.numbers.now)
    (subst
    (λ (xs : List ControlNow). (slice : ℕ) → slice < length xs → length (value_at fresh_control xs slice).home ≡ 0)
    c.as_slice.ensures.value c.if-are_control_homes_empty.ensures)
