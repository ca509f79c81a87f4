-- The next order of a data worker.
use Rattle.std.specs.Prelude.{◌≡◌, ℕ, Option, Some, None, List, ◌∷◌, drop}
use Rattle.epoch_schedule.specs.World.{DataNow, DataOrder, item}

-- it is taken from what the worker keeps, or else from its lane
abbrev pub Takes : (kept : Option ℕ) → (orders : List DataOrder) → (old new : DataNow) → DataOrder → Type 0
Takes (Some slot) orders old new order = (order ≡ item slot) × (new ≡ record old { kept = None })
Takes None orders old new order = (orders ≡ order ∷ drop 1 orders) × (new ≡ record old { orders = drop 1 orders })
