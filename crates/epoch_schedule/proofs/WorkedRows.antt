-- The rows compute.
use Rattle.std.proofs.Common.{refl}
use Rattle.epoch_schedule.specs.Halves.{learn}
use Rattle.epoch_schedule.specs.DataTurns.{take_orders}
use Rattle.epoch_schedule.specs.Rows.{ParkedOnTheWay, PlacesOfTurns, MovesInARow, FullRoom, TwoCommandsOneBatch, ParkingQueueFull, SliceLaneFull, NewerWait, SeventeenCommands, WaitsForCommands, NineOrders, SeventeenBatches, TwoHalvesLeave, NextHalfWorks, FullOrders, FullHome}

pub parked_on_the_way : ParkedOnTheWay
unfolding learn take_orders
parked_on_the_way = record { lines = refl; packets = refl }

pub places_of_turns : PlacesOfTurns
unfolding learn take_orders
places_of_turns = record { lines = refl; packets = refl }

pub moves_in_a_row : MovesInARow
unfolding learn take_orders
moves_in_a_row = record { lines = refl; packets = refl }

pub full_room : FullRoom
unfolding learn take_orders
full_room = record { lines = refl; packets = refl; again = refl }

pub two_commands_one_batch : TwoCommandsOneBatch
unfolding learn take_orders
two_commands_one_batch = record { lines = refl; packets = refl }

pub parking_queue_full : ParkingQueueFull
unfolding learn take_orders
parking_queue_full = record { lines = refl; packets = refl }

pub slice_lane_full : SliceLaneFull
unfolding learn take_orders
slice_lane_full = record { lines = refl; packets = refl }

pub newer_wait : NewerWait
unfolding learn take_orders
newer_wait = record { lines = refl; packets = refl }

pub seventeen_commands : SeventeenCommands
unfolding learn take_orders
seventeen_commands = record { lines = refl; packets = refl }

pub waits_for_commands : WaitsForCommands
unfolding learn take_orders
waits_for_commands = record { lines = refl; packets = refl }

pub nine_orders : NineOrders
unfolding learn take_orders
nine_orders = record { lines = refl; packets = refl }

pub seventeen_batches : SeventeenBatches
unfolding learn take_orders
seventeen_batches = record { lines = refl; packets = refl }

pub two_halves_leave : TwoHalvesLeave
unfolding learn take_orders
two_halves_leave = record { one_back = refl; both_back = refl }

pub next_half_works : NextHalfWorks
unfolding learn take_orders
next_half_works = record { second = refl; third = refl }

pub full_orders : FullOrders
unfolding learn take_orders
full_orders = record { last = refl; one_more = refl }

pub full_home : FullHome
unfolding learn take_orders
full_home = record { control_stays = refl; control_goes = refl; data_stays = refl; data_goes = refl }
