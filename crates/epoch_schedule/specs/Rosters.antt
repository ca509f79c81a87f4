-- Halves that a worker holds, in the order in which they came, with holes where some left.
use Rattle.std.specs.Prelude.{◌≡◌, ℕ, ◌+◌, ◌<◌, ◌≤◌, ◌==◌, Bool, true, false, Option, Some, None, List, [], ◌∷◌}
use Rattle.std.specs.Prelude.{length, take, get_or}
use Rattle.epoch_schedule.specs.World.{World, HeldControl, control_at, cursor_behind}
use Rattle.epoch_schedule.specs.ControlTurns.{marked, stays, without}
use Rattle.epoch_schedule.specs.Waiting.{is_in}

-- what a worker holds, and the place of the half whose turn is next
pub record RosterNow : Type 0 where
  pub held : List HeldControl
  pub cursor : ℕ

abbrev pub roster_at : World → ℕ → RosterNow
roster_at world slice = record { held = (control_at world slice).held; cursor = (control_at world slice).cursor }

abbrev pub present : List (Option HeldControl) → List HeldControl
present [] = []
present (None ∷ others) = present others
present (Some half ∷ others) = half ∷ present others

-- what stands at an index, and how many halves stand before it
abbrev pub entry : List (Option HeldControl) → ℕ → Option HeldControl
entry halves i = get_or halves i None

abbrev pub place_at : List (Option HeldControl) → ℕ → ℕ
place_at halves i = length (present (take i halves))

pub record IsHalf (halves : List (Option HeldControl)) (i : ℕ) : Type 0 where
  pub half : HeldControl
  pub here : entry halves i ≡ Some half

pub record IsHalfOf (halves : List (Option HeldControl)) (slot i : ℕ) : Type 0 where
  pub half : HeldControl
  pub here : entry halves i ≡ Some half
  pub own : half.slot ≡ slot

-- a half of this slot stands at this index, and no other before it; or none stands anywhere
pub record StandsAt (halves : List (Option HeldControl)) (slot i : ℕ) : Type 0 where
  pub half : HeldControl
  pub here : entry halves i ≡ Some half
  pub own : half.slot ≡ slot
  pub before : (j : ℕ) → (other : HeldControl) → j < i → entry halves j ≡ Some other → (other.slot == slot) ≡ false

abbrev pub Lacks : List (Option HeldControl) → (slot : ℕ) → Type 0
Lacks halves slot = (j : ℕ) → (other : HeldControl) → entry halves j ≡ Some other → (other.slot == slot) ≡ false

-- each half is of a slot of its own, and stands at the index of its slot
abbrev pub Indexed : List (Option HeldControl) → (index : List ℕ) → Type 0
Indexed halves index =
    (i : ℕ) → (half : HeldControl) → entry halves i ≡ Some half
    → (half.slot < length index) × (get_or index half.slot 0 ≡ i)

-- none is marked but at these indices
abbrev pub OnlyCalled : List (Option HeldControl) → (called : List ℕ) → Type 0
OnlyCalled halves called =
    (i : ℕ) → (half : HeldControl) → entry halves i ≡ Some half → is_in called i ≡ false → half.until ≡ None

pub record IsRoster (halves : List (Option HeldControl)) (index : List ℕ) (once : Bool) (holes next : ℕ)
    (called : List ℕ) : Type 0 where
  pub counted : holes + length (present halves) ≡ length halves
  pub few : next ≤ length halves
  pub indexed : once ≡ true → Indexed halves index
  pub only : OnlyCalled halves called

-- a half is marked where it is of this slot
abbrev pub mark_entry : (slot until : ℕ) → Option HeldControl → Option HeldControl
mark_entry slot until None = None
mark_entry slot until (Some half) = Some (marked slot until half)

-- the first of these indices below a limit of a half that is done, by its world, or the limit
abbrev pub Stays : World → List (Option HeldControl) → (first i : ℕ) → Type 0
Stays world halves first i = (half : HeldControl) → i < first → entry halves i ≡ Some half → stays world half ≡ true

pub record IsDone (world : World) (halves : List (Option HeldControl)) (i : ℕ) : Type 0 where
  pub half : HeldControl
  pub here : entry halves i ≡ Some half
  pub done : stays world half ≡ false

-- such a half is the first one, or there is none
pub record FirstDone (world : World) (halves : List (Option HeldControl)) (first : ℕ) : Type 0 where
  pub few : first ≤ length halves
  pub done : first < length halves → IsDone world halves first

-- the half of a place leaves
abbrev pub left : RosterNow → ℕ → RosterNow
left now place = record {
  held = without place now.held;
  cursor = cursor_behind place now.cursor (length (without place now.held));
}
