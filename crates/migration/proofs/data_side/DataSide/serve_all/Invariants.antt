use Rattle.std.proofs.Common.{◌≡◌, ℕ}
use Rattle.worker_core.specs.Counts.{Lasts}
use Rattle.worker_core.specs.Desks.{homes_of, fulls_at}
use Rattle.migration.specs.DataPumps.{EachState, IsOffered}
use Rattle.migration.specs.DataQueues.{QueuesStay}
use Rattle.migration.specs.DataWords.{roll_of}
use Rattle.migration.proofs.DataPasses.{Waits}
use Rattle.migration.proofs.DataListings.{MeetsListed}
use Rattle.migration.proofs.data_side.DataSide.serve_all.Given as goal

abbrev pub invariant-loop-at : goal.invariant-loop-at
invariant-loop-at g l =
    (roll_of g.H.DataTraveller.name l.self ≡ roll_of g.H.DataTraveller.name l.fn.self)
    × (l.self.aside.items ≡ l.fn.self.aside.items)
    × (homes_of l.self.desks.items ≡ homes_of l.fn.self.desks.items)
    × (l.self.due.items ≡ l.fn.self.due.items)
    × ((slice : ℕ) → Lasts (fulls_at l.fn.self.desks.items slice) (fulls_at l.self.desks.items slice))
    × EachState IsOffered l.fn.self.places.items l.self.places.items
    × MeetsListed Waits l.at l.fn.self.due.items l.self.places.items l.fn.self.desks.items l.self.desks.items
    × QueuesStay l.fn.self.places.items l.self.places.items
