-- A note behind the lines of an epoch, with no turns behind it.
use Rattle.std.specs.Prelude.{◌≡◌, ℕ, ◌+◌, List, [], ◌∷◌, ◌++◌, length}
use Rattle.demux.specs.Trace.{Meaning, note}
use Rattle.lawful_run.specs.Merging.{Histories}
use Rattle.lawful_run.specs.Noted.{with_note}
use Rattle.lawful_run.specs.Report.{EpochReport}
use Rattle.epoch_schedule.specs.World.{Rooms}
use Rattle.epoch_drive.specs.Driven.{IsDriven}

-- It changes nothing else that is told: each line has its turns, and the note has none.
abbrev pub NoteIsDriven : Type 0
NoteIsDriven = (rooms : Rooms) (bounds : ℕ → ℕ) (turns : List (List ℕ)) (slots first : ℕ) (before : Histories)
    (made : List Meaning) (told : EpochReport) (text : List ℕ) → length turns ≡ length made
    → IsDriven rooms bounds turns slots first before made told
    → IsDriven rooms bounds turns slots first before (made ++ note text ∷ [])
    (with_note told (first + length made) text)
