use Rattle.epoch_schedule.proofs.WorkedRows.{parked_on_the_way, places_of_turns, moves_in_a_row, full_room, two_commands_one_batch, parking_queue_full, slice_lane_full, newer_wait, seventeen_commands, waits_for_commands, nine_orders, seventeen_batches, two_halves_leave, next_half_works, full_orders, full_home}
use Rattle.epoch_schedule.proofs.schedule_laws.worked_rows.Goals as goal

pub returns : goal.returns
returns c = record {
  parked_on_the_way = parked_on_the_way;
  places_of_turns = places_of_turns;
  moves_in_a_row = moves_in_a_row;
  full_room = full_room;
  two_commands_one_batch = two_commands_one_batch;
  parking_queue_full = parking_queue_full;
  slice_lane_full = slice_lane_full;
  newer_wait = newer_wait;
  seventeen_commands = seventeen_commands;
  waits_for_commands = waits_for_commands;
  nine_orders = nine_orders;
  seventeen_batches = seventeen_batches;
  two_halves_leave = two_halves_leave;
  next_half_works = next_half_works;
  full_orders = full_orders;
  full_home = full_home;
}
