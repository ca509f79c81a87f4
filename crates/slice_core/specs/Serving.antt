-- What the threads of an epoch need, and what they leave.
use Rattle.std.specs.Prelude.{◌≡◌, ℕ, ◌+◌, ◌≤◌, ◌^◌, List, [], length, map, vec_len, vec_capacity, IfOk}
use Rattle.trace_lines.specs.Line.{Line}
use Rattle.at_rest.specs.Coming.{AreLater}
use Rattle.worker_core.specs.Workers as worker
use Rattle.worker_core.specs.DataWorkers as data_worker
use Rattle.gather_home.specs.DataPlaced.{slices_served}
use Rattle.front_core.specs.declared.opening.Opened.{Opened}
use Rattle.front_core.specs.Words.{IsWhole, latest_in, lines_in}
use Rattle.slice_core.specs.declared.served.Places.{Places}
use Rattle.slice_core.specs.declared.served.Posts.{Posts}
use Rattle.slice_core.specs.declared.served.ServedEpoch.{ServedEpoch}
use Rattle.slice_core.specs.Lines.{TakesAll}

-- memory for the threads of so many slices, and for the ends of their workers
pub record HasRoomFor (slices : ℕ) (places : Places) : Type 0 where
  pub threads : slices ≤ vec_capacity places.threads
  pub controls : slices ≤ vec_capacity places.ends.controls
  pub datas : slices ≤ vec_capacity places.ends.datas
  pub no_threads : places.threads.items ≡ []
  pub no_ends : (places.ends.controls.items ≡ []) × (places.ends.datas.items ≡ [])

-- posts and calls for so many slices
pub record AreFor (slices : ℕ) (shared : Posts) : Type 0 where
  pub posts : vec_len shared.slices ≡ slices
  pub calls : vec_len shared.calls ≡ slices

-- a front and its workers, with memory and posts for their threads, and the lines that are to come
pub record AreServed (opened : Opened) (places : Places) (shared : Posts) (lines : List Line) : Type 0 where
  pub whole : IsWhole opened.front
  pub few : lines_in opened.front + length lines ≤ 2 ^ 39
  pub later : AreLater (latest_in opened.front) lines
  pub pairs : map data_worker.place_of opened.datas.items ≡ map worker.place_of opened.controls.items
  pub room : HasRoomFor (vec_len opened.controls) places
  pub posts : AreFor (vec_len opened.controls) shared

-- The ends are those of the workers, in their order; and where the front had memory, it took all lines.
pub record Serves (opened : Opened) (tries : ℕ) (lines : List Line) (served : ServedEpoch) : Type 0 where
  pub takes : IfOk served.front (TakesAll tries lines opened.front)
  pub controls : map worker.end_lanes served.controls.items ≡ map worker.worker_lanes opened.controls.items
  pub datas : map data_worker.end_lanes served.datas.items ≡ map data_worker.worker_lanes opened.datas.items
  pub places : slices_served served.datas.items ≡ map data_worker.place_of opened.datas.items
