-- The sentences of the lawful run about the lines of one slot in an epoch.
use Rattle.std.specs.Prelude.{◌≡◌, ℕ, ◌+◌, ◌≤◌, IfSome, Option, List, [], ◌∷◌, ◌++◌, length, filter_map}
use Rattle.report_lines.specs.declared.entry.LineEntry.{LineEntry}
use Rattle.lawful_run.specs.Accepted.{commands_accepted, packets_accepted, command_count}
use Rattle.lawful_run.specs.Answers.{Answers}
use Rattle.lawful_run.specs.Bounds.{Rises}
use Rattle.lawful_run.specs.LinesTold.{LineTold, EachLine}
use Rattle.lawful_run.specs.Moves.{before_last_move, before_next_move}
use Rattle.lawful_run.specs.Parking.{MayPark, parked_told}
use Rattle.lawful_run.specs.Telling.{command_number, packet_number, commands_told, counted}

-- each of some lines, from the line of this number on, has its answer
abbrev pub AreAnswered : ℕ → List LineTold → Type 0
AreAnswered n [] = Unit {0}
AreAnswered n (now ∷ later) = Answers n now.meaning now.entry × AreAnswered (n + 1) later

-- what the entries tell of a slot
abbrev pub told_of : {X : Type 0} → (ℕ → LineEntry → Option X) → ℕ → List LineTold → List X
told_of tell slot lines = filter_map (λ (told : LineTold). tell slot told.entry) lines

-- its commands and packets are numbered on in line order, from so many
pub record NumberOn (slot commands packets : ℕ) (lines : List LineTold) : Type 0 where
  pub of_commands : told_of command_number slot lines ≡ counted commands (length (commands_accepted slot lines))
  pub of_packets : told_of packet_number slot lines ≡ counted packets (length (packets_accepted slot lines))

-- A packet's count of commands lies within its bounds, where the slot had so many commands before the epoch: at least
-- those before the last move, at most those before the next one.
abbrev pub Within : (slot start : ℕ) → List LineTold → List LineTold → ℕ → Type 0
Within slot start before later count =
    (start + command_count slot (before_last_move slot before) ≤ count)
    × (count ≤ start + command_count slot (before ++ before_next_move slot later))

abbrev pub LiesWithin : (slot start : ℕ) → List LineTold → LineTold → List LineTold → Type 0
LiesWithin slot start before now later = IfSome (commands_told slot now.entry) (Within slot start before later)

pub record CountsRise (slot start : ℕ) (lines : List LineTold) : Type 0 where
  pub rises : Rises start (told_of commands_told slot lines)
  pub within : EachLine (LiesWithin slot start) lines

-- a packet has just the commands before its line
abbrev pub HasAll : (slot start : ℕ) → List LineTold → LineTold → List LineTold → Type 0
HasAll slot start before now later =
    IfSome (commands_told slot now.entry) (λ count. count ≡ start + command_count slot before)

-- a packet is parked only where it may be
abbrev pub ParksWell : ℕ → List LineTold → LineTold → List LineTold → Type 0
ParksWell slot before now later = IfSome (parked_told slot now) (λ parked. MayPark parked slot before)
