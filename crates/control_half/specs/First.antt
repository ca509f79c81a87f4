-- The first item of a list that has one.
use Rattle.std.specs.Prelude.{◌≡◌, Bool, true, false, List, [], ◌∷◌}
use Rattle.std.proofs.Common.{true≢false, sym}

module _ {X Y : Type 0} where
  abbrev pub has_first : List (X × Y) → Bool
  has_first [] = false
  has_first (item ∷ rest) = true

  abbrev pub first_of : (items : List (X × Y)) → has_first items ≡ true → X
  first_of [] one = absurd (true≢false (sym one))
  first_of (item ∷ rest) one = item.0
