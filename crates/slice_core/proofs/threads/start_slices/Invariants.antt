use Rattle.std.proofs.Common.{◌≡◌, ◌+◌, ◌≤◌, ◌++◌, map, vec_len, vec_capacity}
use Rattle.std.specs.Vec.Iter.{into_iter_items, into_iter_len}
use Rattle.slice_core.specs.Seats.{control_seat, data_seat}
use Rattle.slice_core.specs.Threads.{control_in, data_in}
use Rattle.slice_core.proofs.threads.start_slices.Given as goal

abbrev pub invariant-loop-control : goal.invariant-loop-control
invariant-loop-control g l = record {
  count : vec_len l.threads + into_iter_len l.control-iterator ≡ vec_len l.fn.controls;
  pairs : into_iter_len l.rest ≡ into_iter_len l.control-iterator;
  room : vec_len l.fn.controls ≤ vec_capacity l.threads;
  controls : map control_in l.threads.items ++ map control_seat (into_iter_items l.control-iterator)
      ≡ map control_seat l.fn.controls.items;
  datas : map data_in l.threads.items ++ map data_seat (into_iter_items l.rest) ≡ map data_seat l.fn.datas.items;
}
