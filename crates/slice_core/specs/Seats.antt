-- The seat of a worker: its place and its lanes. A worker's end has that of its worker, whatever thread served it.
use Rattle.std.specs.Prelude.{ℕ}
use Rattle.worker_core.specs.declared.traveller.Traveller as traveller
use Rattle.worker_core.specs.declared.worker.Worker.{Worker}
use Rattle.worker_core.specs.declared.worker.WorkerEnd.{WorkerEnd}
use Rattle.worker_core.specs.Workers as control_worker
use Rattle.worker_core.specs.Workers.{Lanes}
use Rattle.worker_core.specs.declared.data_half.DataTraveller as data_travelling
use Rattle.worker_core.specs.declared.data_worker.DataWorker.{DataWorker}
use Rattle.worker_core.specs.declared.data_worker.DataEnd.{DataEnd}
use Rattle.worker_core.specs.DataWorkers as data_worker
use Rattle.slice_core.specs.declared.serving.SliceWorkers.{SliceWorkers}
use Rattle.slice_core.specs.declared.serving.SliceEnds.{SliceEnds}

abbrev pub Seat : Type 0
Seat = ℕ × Lanes

module _ {H N : Type 0} {g : traveller.Ghosts H N} where
  abbrev pub control_seat : Worker H N g → Seat
  control_seat worker = (control_worker.place_of worker, control_worker.worker_lanes worker)

  abbrev pub control_end_seat : WorkerEnd H N g → Seat
  control_end_seat end = (end.place, control_worker.end_lanes end)

module _ {H N I : Type 0} {g : data_travelling.Ghosts H N I} where
  abbrev pub data_seat : DataWorker H N I g → Seat
  data_seat worker = (data_worker.place_of worker, data_worker.worker_lanes worker)

  abbrev pub data_end_seat : DataEnd H N I g → Seat
  data_end_seat end = (end.place, data_worker.end_lanes end)

-- those of the two workers of a slice
abbrev pub workers_seats : SliceWorkers → Seat × Seat
workers_seats workers = (control_seat workers.control, data_seat workers.data_half)

abbrev pub ends_seats : SliceEnds → Seat × Seat
ends_seats ends = (control_end_seat ends.control, data_end_seat ends.data_half)
