-- A list that was made long enough for a number, by fresh values behind it.
use Rattle.std.specs.Prelude.{◌≡◌, ℕ, ◌<◌, List, length, get_or, set}
use Rattle.epoch_schedule.specs.Numbers.{value_at, put_at}

pub record Reached {X : Type 0} (fresh : X) (old new : List X) (n : ℕ) : Type 0 where
  pub within : n < length new
  pub value : (other : X) → get_or new n other ≡ value_at fresh old n
  pub puts : (x : X) → set new n x ≡ put_at fresh old n x
