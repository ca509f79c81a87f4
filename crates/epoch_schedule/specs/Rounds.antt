-- Halves that a control worker holds: each of a slot of its own, and in which order they are turned.
use Rattle.std.specs.Prelude.{◌≡◌, ℕ, ◌+◌, ◌-◌, ◌<◌, ◌==◌, false, if◌then◌else◌, not, nat_lt}
use Rattle.std.specs.Prelude.{List, [], ◌∷◌, length, map}
use Rattle.std.specs.List.{prefix_len}
use Rattle.epoch_schedule.specs.World.{HeldControl}
use Rattle.epoch_schedule.specs.Waiting.{is_in}
use Rattle.epoch_schedule.specs.Rosters.{RosterNow}

abbrev pub slots_held : List HeldControl → List ℕ
slots_held held = map (λ (half : HeldControl). half.slot) held

-- each slot once, and below the last one
abbrev pub EachOnce : (last : ℕ) → List ℕ → Type 0
EachOnce last [] = Unit {0}
EachOnce last (s ∷ others) = (s < last) × (is_in others s ≡ false) × EachOnce last others

pub record IsOrderly (last : ℕ) (roster : RosterNow) : Type 0 where
  pub next : roster.cursor < length roster.held
  pub once : EachOnce last (slots_held roster.held)

-- the place of the half of a slot, or how many there are
abbrev pub place_held : ℕ → List HeldControl → ℕ
place_held slot held = prefix_len (λ (half : HeldControl). not (half.slot == slot)) held

-- how many halves are turned before that of another place, round a list of so many, and where so many turns lead
abbrev pub distance : (place other count : ℕ) → ℕ
distance place other count = if nat_lt other place then other + count - place else other - place

abbrev pub place_on : (place n count : ℕ) → ℕ
place_on place n count = if nat_lt (place + n) count then place + n else place + n - count

-- how many halves are turned before that of a place, or of a slot
abbrev pub turn_at : RosterNow → ℕ → ℕ
turn_at roster place = distance roster.cursor place (length roster.held)

abbrev pub turn_of : RosterNow → ℕ → ℕ
turn_of roster slot = turn_at roster (place_held slot roster.held)
