use Rattle.std.proofs.Common.{◌≡◌, map, replicate}
use Rattle.std.specs.Prelude.{All}
use Rattle.worker_core.specs.Desks.{lanes_of}
use Rattle.worker_core.specs.Workers.{IsNewDesk, Lanes}
use Rattle.worker_core.specs.DataWorkers.{place_of, worker_lanes}
use Rattle.front_core.specs.Words.{first_slices}
use Rattle.front_core.proofs.opening.datas_of.Given as goal

abbrev pub invariant-loop-i : goal.invariant-loop-i
invariant-loop-i l = record {
  lanes : lanes_of l.desks.items ≡ map worker_lanes l.workers.items;
  rooms : map (λ (lanes : Lanes). lanes.0.room) (lanes_of l.desks.items) ≡ replicate l.i l.fn.lane;
  places : map place_of l.workers.items ≡ first_slices l.i;
  new : All IsNewDesk l.desks.items;
}
