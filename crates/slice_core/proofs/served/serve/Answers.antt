use Rattle.std.proofs.Common.{arith, ◌∙◌}
use Rattle.worker_core.specs.Workers as worker
use Rattle.worker_core.specs.DataWorkers as data_worker
use Rattle.slice_core.specs.Seats.{Seat, control_end_seat, control_seat, data_end_seat, data_seat}
use Rattle.slice_core.specs.Threads.{control_in}
use Rattle.slice_core.proofs.Seats.{as_many, parts_are}
use Rattle.slice_core.proofs.served.serve.Goals as goal

pub start_slices-threads-requires-clause-pairs : goal.start_slices-threads-requires-clause-pairs
start_slices-threads-requires-clause-pairs g c =
    let controls = c.args.opened.controls in
    let datas = c.args.opened.datas in
    let many = as_many data_worker.place_of worker.place_of datas.items controls.items c.requires.pairs in
    omega (arith, many, controls.ok, datas.ok)

pub join_slices-ends-requires-clause-room : goal.join_slices-ends-requires-clause-room
join_slices-ends-requires-clause-room g c =
    let workers = c.args.opened.controls in
    let threads = c.start_slices-threads.result in
    let many = as_many control_in control_seat threads.items workers.items c.start_slices-threads.ensures.controls in (
      omega (arith, many, threads.ok, workers.ok, c.requires.room.controls),
      omega (arith, many, threads.ok, workers.ok, c.requires.room.datas),
    )

pub returns : goal.returns
returns g c =
    let ends = c.join_slices-ends in
    let threads = c.start_slices-threads in
    record {
      takes = c.front_work-front.ensures;
      controls = parts_are control_end_seat control_seat (λ (s : Seat). s.1) ends.result.controls.items
          c.args.opened.controls.items (ends.ensures.controls ∙ threads.ensures.controls);
      datas = parts_are data_end_seat data_seat (λ (s : Seat). s.1) ends.result.datas.items
          c.args.opened.datas.items (ends.ensures.datas ∙ threads.ensures.datas);
      places = parts_are data_end_seat data_seat (λ (s : Seat). s.0) ends.result.datas.items
          c.args.opened.datas.items (ends.ensures.datas ∙ threads.ensures.datas);
    }
