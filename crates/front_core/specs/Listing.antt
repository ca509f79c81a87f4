-- The slots whose control half may be on its way, in a list.
use Rattle.std.specs.Prelude.{◌≡◌, ℕ, ◌+◌, ◌<◌, ◌==◌, Bool, true, false, not, List, [], ◌∷◌, Option, Some, None}
use Rattle.migration.specs.declared.place.ControlPlace.{ControlPlace}
use Rattle.migration.specs.Places.{place_at, is_placed, is_admitted}

abbrev pub one_if : Bool → ℕ
one_if true = 1
one_if false = 0

-- how often a slot stands in a list
abbrev pub times : ℕ → List ℕ → ℕ
times slot [] = 0
times slot (other ∷ slots) = one_if (other == slot) + times slot slots

-- a half was admitted, and it isn't so that it was sent to a slice and nothing else is asked of it
abbrev pub is_moving : {H : Type 0} → Option (ControlPlace H) → Bool
is_moving None = false
is_moving (Some place) = not (is_placed place.state)

-- just the slots whose half is moving stand in the list, each once, and there is room for all that are admitted
pub record ListsMoving {H : Type 0} (places : List (Option (ControlPlace H))) (moving : List ℕ)
    (room : ℕ) : Type 0 where
  pub each : (slot : ℕ) → times slot moving ≡ one_if (is_moving (place_at places slot))
  pub roomy : (slot : ℕ) → is_admitted (place_at places slot) ≡ true → slot < room
