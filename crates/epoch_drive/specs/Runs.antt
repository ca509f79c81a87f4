-- Which entries a trace has under a schedule: epoch after epoch, each slot bound in the next epoch for where its last
-- move sent it.
use Rattle.std.specs.Prelude.{◌≡◌, ℕ, ◌+◌, ◌%◌, ◌==◌, if◌then◌else◌, List, [], ◌∷◌, length, drop}
use Rattle.demux.specs.Trace.{Meaning, command, packet, move, note}
use Rattle.lawful_run.specs.Merging.{Histories, behind}
use Rattle.lawful_run.specs.Outcomes as made_of
use Rattle.lawful_run.specs.Report.{EpochReport, Report}
use Rattle.lawful_run.specs.Run.{told_in, by_slot, behind_all, no_events, IsRun}
use Rattle.lawful_run.specs.Setup.{sliced}
use Rattle.epoch_schedule.specs.World.{Rooms}
use Rattle.epoch_drive.specs.Driven.{IsDriven}

-- where each slot is bound for behind a line, and behind lines
abbrev pub bound_by : (ℕ → ℕ) → Meaning → ℕ → ℕ
bound_by bounds (command own c) slot = bounds slot
bound_by bounds (packet own p) slot = bounds slot
bound_by bounds (move own slice text) slot = if own == slot then slice else bounds slot
bound_by bounds (note text) slot = bounds slot

abbrev pub bounds_behind : (ℕ → ℕ) → List Meaning → ℕ → ℕ
bounds_behind bounds [] = bounds
bounds_behind bounds (now ∷ made) = bounds_behind (bound_by bounds now) made

-- the turns of the next epoch, by line, and none where none are told
abbrev pub next_turns : List (List (List ℕ)) → List (List ℕ)
next_turns [] = []
next_turns (first ∷ turns) = first

-- Epoch after epoch, each behind the events of those before it. The turns stand by epoch and line.
abbrev pub AreDriven : Rooms → (bounds : ℕ → ℕ) → (turns : List (List (List ℕ))) → (slots first : ℕ) → Histories
    → List (List Meaning) → List EpochReport → Type 0
AreDriven rooms bounds turns slots first before [] [] = Unit {0}
AreDriven rooms bounds turns slots first before [] (told ∷ others) = ⊥
AreDriven rooms bounds turns slots first before (made ∷ epochs) [] = ⊥
AreDriven rooms bounds turns slots first before (made ∷ epochs) (told ∷ others) =
    IsDriven rooms bounds (next_turns turns) slots first before made told
    × AreDriven rooms (bounds_behind bounds made) (drop 1 turns) slots (first + length made)
    (behind before (told_in made told)) epochs others

-- which entries a trace has: each slot begins bound for the slice of its number, and without events
pub record IsDrivenRun (rooms : Rooms) (slices : ℕ) (turns : List (List (List ℕ))) (slots : ℕ)
    (made : List (List Meaning)) (report : Report) : Type 0 where
  pub epochs : AreDriven rooms (λ slot. slot % slices) turns slots 1 no_events made report.epochs
  -- the open counters are those behind all events, by slot
  pub opens : report.opens ≡ by_slot slots (λ slot. made_of.opens slot (behind_all no_events made report.epochs slot))

-- a driven run is a lawful one
abbrev pub DrivenRunsAreLawful : Type 0
DrivenRunsAreLawful = (slices room lane : ℕ) (turns : List (List (List ℕ))) (slots : ℕ) (made : List (List Meaning))
    (report : Report)
    → IsDrivenRun (record { room = room; lane = lane }) slices turns slots made report
    → IsRun (sliced slices room lane) slots made report

-- and two driven runs of one schedule are equal
abbrev pub OneRunIsDriven : Type 0
OneRunIsDriven = (rooms : Rooms) (slices : ℕ) (turns : List (List (List ℕ))) (slots : ℕ) (made : List (List Meaning))
    (one other : Report)
    → IsDrivenRun rooms slices turns slots made one
    → IsDrivenRun rooms slices turns slots made other
    → one ≡ other

-- and each schedule has one
abbrev pub EachRunIsDriven : Type 0
EachRunIsDriven = (rooms : Rooms) (slices : ℕ) (turns : List (List (List ℕ))) (slots : ℕ) (made : List (List Meaning))
    → (report : Report) × IsDrivenRun rooms slices turns slots made report

-- Behind an epoch the next list of turns is due, and each slot is bound for where its last move sent it, else for
-- where it was bound before.
pub record EpochsGoOn : Type 0 where
  pub turns : (rooms : Rooms) (bounds : ℕ → ℕ) (now : List (List ℕ)) (later : List (List (List ℕ))) (slots first : ℕ)
      (before : Histories) (made : List Meaning) (epochs : List (List Meaning)) (told : EpochReport)
      (others : List EpochReport)
      → AreDriven rooms bounds (now ∷ later) slots first before (made ∷ epochs) (told ∷ others)
      → IsDriven rooms bounds now slots first before made told
      × AreDriven rooms (bounds_behind bounds made) later slots (first + length made)
      (behind before (told_in made told)) epochs others
  pub moved : (bounds : ℕ → ℕ) (slice later : ℕ) (text : List ℕ)
      → bounds_behind bounds (move 3 slice text ∷ note text ∷ move 3 later text ∷ []) 3 ≡ later
  pub unmoved : (bounds : ℕ → ℕ) (slice : ℕ) (text : List ℕ)
      → bounds_behind bounds (move 3 slice text ∷ []) 4 ≡ bounds 4
