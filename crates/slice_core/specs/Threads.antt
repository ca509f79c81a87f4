-- Which seats a thread has.
use Rattle.slice_core.specs.declared.threads.SliceThread.{SliceThread}
use Rattle.slice_core.specs.declared.threads.SliceThread.TheVariants as slice_thread
use Rattle.slice_core.specs.Seats.{Seat, workers_seats}

-- those of the workers that a thread was given
abbrev pub seats_in : SliceThread → Seat × Seat
seats_in (slice_thread.Running handle) = workers_seats handle.promise.0.value
seats_in (slice_thread.Refused ended) = workers_seats ended.workers.value

abbrev pub control_in : SliceThread → Seat
control_in thread = (seats_in thread).0

abbrev pub data_in : SliceThread → Seat
data_in thread = (seats_in thread).1
