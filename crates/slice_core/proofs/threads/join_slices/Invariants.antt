use Rattle.std.proofs.Common.{◌≡◌, ◌+◌, ◌≤◌, ◌++◌, map, vec_len, vec_capacity}
use Rattle.std.specs.Vec.Iter.{into_iter_items, into_iter_len}
use Rattle.slice_core.specs.Seats.{control_end_seat, data_end_seat}
use Rattle.slice_core.specs.Threads.{control_in, data_in}
use Rattle.slice_core.proofs.threads.join_slices.Given as goal

abbrev pub invariant-loop-thread : goal.invariant-loop-thread
invariant-loop-thread g l = record {
  count : vec_len l.ends.controls + into_iter_len l.thread-iterator ≡ vec_len l.fn.threads;
  count_datas : vec_len l.ends.datas + into_iter_len l.thread-iterator ≡ vec_len l.fn.threads;
  room : vec_len l.fn.threads ≤ vec_capacity l.ends.controls;
  room_datas : vec_len l.fn.threads ≤ vec_capacity l.ends.datas;
  controls : map control_end_seat l.ends.controls.items ++ map control_in (into_iter_items l.thread-iterator)
      ≡ map control_in l.fn.threads.items;
  datas : map data_end_seat l.ends.datas.items ++ map data_in (into_iter_items l.thread-iterator)
      ≡ map data_in l.fn.threads.items;
}
