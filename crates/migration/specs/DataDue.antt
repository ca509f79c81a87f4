-- The slots that have something to give, in a list by slot.
use Rattle.std.specs.Prelude.{◌≡◌, ℕ, ◌+◌, ◌&&◌, ◌==◌, Bool, true, List, [], ◌∷◌, length, nat_le, nat_lt, Option}
use Rattle.std.specs.List.{list_any}
use Rattle.migration.specs.declared.data_place.DataPlace.{DataPlace}
use Rattle.migration.specs.DataPlaces.{place_at, is_due}

abbrev pub is_among : ℕ → List ℕ → Bool
is_among slot slots = list_any (λ other. other == slot) slots

-- each number is higher than the one before it, the first is this one at least, and all are below an end
abbrev pub is_rising : (least end : ℕ) → List ℕ → Bool
is_rising least end [] = true
is_rising least end (slot ∷ slots) = (nat_le least slot && nat_lt slot end) && is_rising (slot + 1) end slots

-- a slot that is due stands in a list of slots that rise, which has those that stood there
pub record Joins (joins : Bool) (slot end : ℕ) (due later : List ℕ) : Type 0 where
  pub rising : is_rising 0 end later ≡ true
  pub here : joins ≡ true → is_among slot later ≡ true
  pub others : (other : ℕ) → is_among other due ≡ true → is_among other later ≡ true

-- each slot that is due is listed, by slot
pub record Lists {H I : Type 0} (places : List (Option (DataPlace H I))) (due : List ℕ) : Type 0 where
  pub rising : is_rising 0 (length places) due ≡ true
  pub all : (slot : ℕ) → is_due (place_at places slot) ≡ true → is_among slot due ≡ true
