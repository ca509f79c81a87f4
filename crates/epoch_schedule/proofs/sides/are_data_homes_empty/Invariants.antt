use Rattle.std.proofs.Common.{◌≡◌, ℕ, ◌<◌, length}
use Rattle.epoch_schedule.specs.Numbers.{value_at}
use Rattle.epoch_schedule.specs.World.{fresh_data}
use Rattle.epoch_schedule.proofs.sides.are_data_homes_empty.Given as goal

abbrev pub invariant-loop-worker : goal.invariant-loop-worker
invariant-loop-worker l =
    (slice : ℕ) → slice < l.worker-index → length (value_at fresh_data l.datas slice).home ≡ 0
