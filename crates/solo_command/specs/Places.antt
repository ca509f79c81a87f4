-- What stands at a place of a list.
use Rattle.std.specs.Prelude.{◌≡◌, ℕ, Some, List, slice_get}

-- a value at this place, of which this holds
pub record HasAt {X : Type 0} (items : List X) (place : ℕ) (P : X → Type 0) : Type 0 where
  pub value : X
  pub found : slice_get items place ≡ Some value
  pub holds : P value
