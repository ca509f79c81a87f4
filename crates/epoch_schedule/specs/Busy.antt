-- Which control halves may change something in their turn.
use Rattle.std.specs.Prelude.{◌≡◌, ℕ, suc, ◌+◌, ◌<◌, ◌≤◌, Bool, true, false, ◌&&◌, ◌==◌, nat_le, min}
use Rattle.std.specs.Prelude.{Option, Some, None, List, [], ◌∷◌}
use Rattle.std.specs.Prelude.{length, get_or, drop}
use Rattle.epoch_schedule.specs.Numbers.{value_at}
use Rattle.epoch_schedule.specs.Slots.{CommandTags, SlotNow, fresh_slot}
use Rattle.epoch_schedule.specs.Halves.{batch_of}
use Rattle.epoch_schedule.specs.World.{World, HeldControl, control_at}
use Rattle.epoch_schedule.specs.ControlTurns.{held_at}
use Rattle.epoch_schedule.specs.Rounds.{place_held}
use Rattle.epoch_schedule.specs.Waiting.{is_in}

-- Whether a turn of its control half changes nothing: it has nothing to apply, and has looked at the next command, if
-- there is one; or it keeps a batch, and the lane of so many batches is full.
abbrev pub is_still_by : (room : ℕ) → (commands : List CommandTags) → (arrived taken applied : ℕ) → (sent : List ℕ)
    → (unsent : Option ℕ) → Bool
is_still_by room commands arrived taken applied sent None =
    (taken == min (applied + 1) (length commands)) && (batch_of arrived (drop applied commands) == 0)
is_still_by room commands arrived taken applied sent (Some n) = nat_le room (length sent)

abbrev pub is_still : (room : ℕ) → SlotNow → Bool
is_still room slot =
    is_still_by room slot.commands slot.arrived slot.taken slot.applied slot.sent slot.unsent

-- slots whose halves stand in this order from a place on, each once and below the last place
abbrev pub InOrder : (first last : ℕ) → List HeldControl → List ℕ → Type 0
InOrder first last held [] = Unit {0}
InOrder first last held (s ∷ others) =
    (first ≤ place_held s held) × (place_held s held < last) × InOrder (suc (place_held s held)) last held others

-- the halves of the other slots of a list are still, but for one slot
pub record IsLively (room : ℕ) (but : List ℕ) (held : List HeldControl) (list : List ℕ)
    (slots : List SlotNow) : Type 0 where
  pub ordered : InOrder 0 (length held) held list
  pub still : (q : ℕ) → q < length held → is_in list (held_at held q).slot ≡ false
      → is_in but (held_at held q).slot ≡ false
      → is_still room (value_at fresh_slot slots (held_at held q).slot) ≡ true

-- so by slice
abbrev pub AreBusyBut : (room : ℕ) → (but : List ℕ) → List (List ℕ) → World → Type 0
AreBusyBut room but busy world =
    (slice : ℕ) → IsLively room but (control_at world slice).held (get_or busy slice []) world.slots

-- a slot stands in a list, if its half is there, and the others as before
pub record IsWoken (slot : ℕ) (held : List HeldControl) (old new : List ℕ) : Type 0 where
  pub ordered : InOrder 0 (length held) held new
  pub own : place_held slot held < length held → is_in new slot ≡ true
  pub more : (s : ℕ) → is_in old s ≡ true → is_in new s ≡ true

-- a slot stands in a list no longer, and the others as before
pub record IsLeft (slot : ℕ) (held : List HeldControl) (old new : List ℕ) : Type 0 where
  pub ordered : InOrder 0 (length held) held new
  pub none : is_in new slot ≡ false
  pub more : (s : ℕ) → (slot == s) ≡ false → is_in new s ≡ is_in old s

-- so in the list of a slice, and the other lists are as before
pub record IsWithoutSlot (slice slot : ℕ) (old new : List (List ℕ)) (world : World) : Type 0 where
  pub here : IsLeft slot (control_at world slice).held (get_or old slice []) (get_or new slice [])
  pub others : (other : ℕ) → (slice == other) ≡ false → get_or new other [] ≡ get_or old other []
