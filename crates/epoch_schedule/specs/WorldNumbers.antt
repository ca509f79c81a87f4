-- What stands in the code's numbers for standings and orders.
use Rattle.std.specs.Prelude.{ℕ, ◌-◌, Option, List, length, slice_get}
use Rattle.epoch_schedule.specs.Slots.{absent, front, placed, recalled, leaving}
use Rattle.epoch_schedule.specs.Slots as slots
use Rattle.epoch_schedule.specs.World as world
use Rattle.epoch_schedule.specs.declared.standing.Standing.{Standing}
use Rattle.epoch_schedule.specs.declared.standing.Standing.TheVariants as standing
use Rattle.epoch_schedule.specs.declared.standing.ControlOrder.{ControlOrder}
use Rattle.epoch_schedule.specs.declared.standing.ControlOrder.TheVariants as control
use Rattle.epoch_schedule.specs.declared.standing.OrderNumbers.{OrderNumbers}
use Rattle.epoch_schedule.specs.declared.standing.OrderNumbers.TheVariants as data_half

abbrev pub standing_of : Standing → slots.Standing
standing_of standing.Absent = absent
standing_of standing.Front = front
standing_of (standing.Placed slice) = placed slice
standing_of (standing.Recalled slice until) = recalled slice until
standing_of standing.Leaving = leaving

abbrev pub control_order : ControlOrder → world.ControlOrder
control_order (control.Come slot) = world.come slot
control_order (control.Go slot until) = world.go slot until

abbrev pub data_order : OrderNumbers → world.DataOrder
data_order (data_half.Arrive slot) = world.arrive slot
data_order (data_half.Item slot) = world.item slot
data_order (data_half.Leave slot) = world.leave slot

-- where the last of these moves goes
abbrev pub last_of : List ℕ → Option ℕ
last_of moves = slice_get moves (length moves - 1)
