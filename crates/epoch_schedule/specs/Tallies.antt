-- What the lines of an epoch say of a slot, by which of them were taken and parked; and which lines may be refused, and
-- which packets parked, by that.
use Rattle.std.specs.Prelude.{◌≡◌, ℕ, ◌+◌, ◌*◌, ◌<◌, ◌≤◌, ◌==◌, ◌⊎◌, Bool, true, false, if◌then◌else◌, ◌&&◌}
use Rattle.std.specs.Prelude.{List, [], ◌∷◌, length, count_by}
use Rattle.epoch_schedule.specs.Front.{Asks, nothing, command, packet, move, Outcome}
use Rattle.epoch_schedule.specs.World.{Rooms, start}
use Rattle.epoch_schedule.specs.Schedule.{Driven, outcomes}

-- whether there was a command or packet, how many of each were accepted, how many moves there were, and whether all
-- packets since the last one were parked
pub record Tally : Type 0 where
  pub seen : Bool
  pub commands : ℕ
  pub packets : ℕ
  pub moves : ℕ
  pub parked : Bool

abbrev pub no_tally : Tally
no_tally = record { seen = false; commands = 0; packets = 0; moves = 0; parked = true }

abbrev pub with_command_line : Tally → Outcome → Tally
with_command_line tally outcome = record tally {
  seen = true;
  commands = if outcome.taken then tally.commands + 1 else tally.commands;
}

abbrev pub with_packet_line : Tally → Outcome → Tally
with_packet_line tally outcome = record tally {
  seen = true;
  packets = if outcome.taken then tally.packets + 1 else tally.packets;
  parked = if outcome.taken then tally.parked && outcome.parked else tally.parked;
}

abbrev pub with_move : Tally → Tally
with_move tally = record tally { moves = tally.moves + 1; parked = true }

-- behind a line with its outcome
abbrev pub tally_after : ℕ → Tally → Asks → Outcome → Tally
tally_after s tally nothing outcome = tally
tally_after s tally (command own) outcome = if own == s then with_command_line tally outcome else tally
tally_after s tally (packet own) outcome = if own == s then with_packet_line tally outcome else tally
tally_after s tally (move own slice) outcome = if own == s then with_move tally else tally

abbrev pub Tallies : Type 0
Tallies = ℕ → Tally

abbrev pub tallies_after : Tallies → Asks → Outcome → Tallies
tallies_after tallies asks outcome = λ s. tally_after s (tallies s) asks outcome

-- how many orders of a slot a slice's lane may have: its packets, one arrival, and a leave and an arrival for each move
abbrev pub may_have : Tally → ℕ
may_have tally = tally.packets + (if tally.seen then 1 else 0) + 2 * tally.moves

-- A lane is full: it has orders of these slots, and no more of each than it may have.
pub record LaneFull (lane : ℕ) (tallies : Tallies) : Type 0 where
  pub slots : List ℕ
  pub full : lane ≤ length slots
  pub each : (s : ℕ) → count_by (λ own. own == s) slots ≤ may_have (tallies s)

-- A packet is parked only behind a move of its slot, and where all its packets since the last one were parked. It is
-- refused only where a lane is full, or behind a move where as many packets of its slot were accepted as may wait.
pub record PacketDue (rooms : Rooms) (tallies : Tallies) (own : ℕ) (outcome : Outcome) : Type 0 where
  pub parked : outcome.parked ≡ true → (0 < (tallies own).moves) × ((tallies own).parked ≡ true)
  pub refused : outcome.taken ≡ false → LaneFull rooms.lane (tallies_after tallies (packet own) outcome)
      ⊎ ((0 < (tallies own).moves) × (rooms.room ≤ (tallies own).packets))

-- a command is refused only where as many of its slot were accepted as may wait
abbrev pub IsDue : Rooms → Tallies → Asks → Outcome → Type 0
IsDue rooms tallies nothing outcome = Unit {0}
IsDue rooms tallies (command own) outcome = outcome.taken ≡ false → rooms.room ≤ (tallies own).commands
IsDue rooms tallies (packet own) outcome = PacketDue rooms tallies own outcome
IsDue rooms tallies (move own slice) outcome = Unit {0}

-- so each line, behind those before it
abbrev pub AreDue : Rooms → Tallies → List Driven → List Outcome → Type 0
AreDue rooms tallies [] outcomes = Unit {0}
AreDue rooms tallies (line ∷ lines) [] = Unit {0}
AreDue rooms tallies (line ∷ lines) (outcome ∷ others) =
    IsDue rooms tallies line.asks outcome × AreDue rooms (tallies_after tallies line.asks outcome) lines others

abbrev pub EachOutcomeIsDue : Type 0
EachOutcomeIsDue = (rooms : Rooms) (bounds : ℕ → ℕ) (lines : List Driven)
    → AreDue rooms (λ s. no_tally) lines (outcomes rooms bounds start lines)
