use Rattle.std.proofs.Common.{◌≡◌, ℕ}
use Rattle.worker_core.specs.Counts.{Lasts}
use Rattle.worker_core.specs.Desks.{homes_of, fulls_at}
use Rattle.migration.specs.DataPlaces.{place_at, waits_at, state_at}
use Rattle.migration.specs.DataQueues.{EachShortens}
use Rattle.migration.specs.DataWords.{roll_of}
use Rattle.migration.proofs.DataPasses.{Queues}
use Rattle.migration.proofs.DataListings.{MeetsListed}
use Rattle.migration.proofs.data_side.DataSide.drain_all.Given as goal

abbrev pub invariant-loop-at : goal.invariant-loop-at
invariant-loop-at g l =
    (roll_of g.H.DataTraveller.name l.self ≡ roll_of g.H.DataTraveller.name l.fn.self)
    × (l.self.aside.items ≡ l.fn.self.aside.items)
    × (homes_of l.self.desks.items ≡ homes_of l.fn.self.desks.items)
    × (l.self.due.items ≡ l.fn.self.due.items)
    × ((slice : ℕ) → Lasts (fulls_at l.fn.self.desks.items slice) (fulls_at l.self.desks.items slice))
    × MeetsListed Queues l.at l.fn.self.due.items l.self.places.items l.fn.self.desks.items l.self.desks.items
    × ((slot : ℕ) → waits_at (place_at l.self.places.items slot) ≡ waits_at (place_at l.fn.self.places.items slot))
    × ((slot : ℕ) → state_at (place_at l.self.places.items slot) ≡ state_at (place_at l.fn.self.places.items slot))
    × EachShortens l.fn.self.places.items l.self.places.items
