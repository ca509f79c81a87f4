-- What becomes of the queues.
use Rattle.std.specs.Prelude.{◌≡◌, ℕ, List, ◌++◌, Option}
use Rattle.migration.specs.declared.data_place.DataPlace.{DataPlace}
use Rattle.migration.specs.DataPlaces.{place_at, queue_at}

-- what a list had is what was sent of it, then what it has
abbrev pub Shortens : {I : Type 0} → List I → List I → Type 0
Shortens {I} old new = (sent : List I) × (old ≡ sent ++ new)

module _ {H I : Type 0} where
  -- the same of each queue
  abbrev pub EachShortens : List (Option (DataPlace H I)) → List (Option (DataPlace H I)) → Type 0
  EachShortens places new = (slot : ℕ) → Shortens (queue_at (place_at places slot)) (queue_at (place_at new slot))

  -- each queue is as it was
  abbrev pub QueuesStay : List (Option (DataPlace H I)) → List (Option (DataPlace H I)) → Type 0
  QueuesStay places new = (slot : ℕ) → queue_at (place_at new slot) ≡ queue_at (place_at places slot)
