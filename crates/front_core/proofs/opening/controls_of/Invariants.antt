use Rattle.std.proofs.Common.{◌≡◌, length, map}
use Rattle.std.specs.Prelude.{All}
use Rattle.worker_core.specs.Desks.{lanes_of}
use Rattle.worker_core.specs.Workers.{IsNewDesk, place_of, worker_lanes}
use Rattle.front_core.specs.Words.{first_slices}
use Rattle.front_core.proofs.opening.controls_of.Given as goal

abbrev pub invariant-loop-i : goal.invariant-loop-i
invariant-loop-i l = record {
  count : length l.desks.items ≡ l.i;
  lanes : lanes_of l.desks.items ≡ map worker_lanes l.workers.items;
  places : map place_of l.workers.items ≡ first_slices l.i;
  new : All IsNewDesk l.desks.items;
}
