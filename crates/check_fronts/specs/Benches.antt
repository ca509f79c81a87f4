-- What is known of a gateway whose workers are turned by hand.
use Rattle.std.specs.Prelude.{◌≡◌, ◌≤◌, false, List, map}
use Rattle.trace_lines.specs.Line.{Line}
use Rattle.lawful_run.specs.Merging.{Histories}
use Rattle.at_rest.specs.Rest.{IsBehind, RepresentsAll}
use Rattle.worker_core.specs.Workers as control_worker
use Rattle.worker_core.specs.DataWorkers as data_worker
use Rattle.audit_core.specs.declared.setup.Setup.{Setup}
use Rattle.front_core.specs.declared.opening.Opened.{Opened}
use Rattle.front_core.specs.Words.{IsWhole, control_lanes, first_slices, data_lanes, opened_of}

-- a setup that a gateway over slices may have
pub record IsGateway (setup : Setup) : Type 0 where
  pub sliced : setup.solo ≡ false
  pub slices : (1 ≤ setup.slices) × (setup.slices ≤ 64)
  pub room : (1 ≤ setup.room) × (setup.room ≤ 256)
  pub lane : (1 ≤ setup.lane) × (setup.lane ≤ 16384)

-- a front of which all is known, with its own workers, those of data halves each of its slice
pub record HasWorkers (opened : Opened) : Type 0 where
  pub whole : IsWhole opened.front
  pub controls : control_lanes opened.front ≡ map control_worker.worker_lanes opened.controls.items
  pub datas : data_lanes opened.front ≡ map data_worker.worker_lanes opened.datas.items
  pub places : map data_worker.place_of opened.datas.items ≡ first_slices (opened_of opened.front).slices

-- it was opened behind some lines and events
pub record IsOpen (opened : Opened) : Type 0 where
  pub workers : HasWorkers opened
  pub prior : List Line
  pub behind : IsBehind (opened_of opened.front) prior
  pub before : Histories
  pub represents : RepresentsAll (opened_of opened.front) before
