-- The open entries of the lines that were taken.
use Rattle.std.specs.Prelude.{◌≡◌, ℕ, ◌+◌, ◌-◌, true, false, List, [], ◌∷◌, map, length, slice_get}
use Rattle.std.specs.Prelude.{Option, Some, None}
use Rattle.trace_lines.specs.Line.{Line}
use Rattle.report_lines.specs.declared.entry.LineEntry.{LineEntry}
use Rattle.report_lines.specs.declared.entry.LineEntry.TheVariants as line
use Rattle.lawful_run.specs.Opened.{open_command, open_packet}
use Rattle.front_core.specs.Lines.{noted}
use Rattle.front_core.specs.declared.taken.OpenEntry.{OpenEntry}
use Rattle.front_core.specs.declared.taken.OpenEntry.TheVariants as entry
use Rattle.front_core.specs.declared.taken.Taken.{Taken}
use Rattle.front_core.specs.declared.took.Took.{Took}
use Rattle.front_core.specs.declared.took.Took.TheVariants as answer

abbrev pub open_of : ℕ → OpenEntry → LineEntry
open_of n (entry.Note text) = noted n text
open_of n (entry.Command slot) = open_command n slot true
open_of n (entry.Packet slot parked) = open_packet n slot true parked
open_of n (entry.Full slot packet) = line.F (record { line = n; slot = slot; packet = packet })

-- those of lines from this number on
abbrev pub opens_of : ℕ → List Taken → List LineEntry
opens_of n [] = []
opens_of n (taken ∷ later) = open_of n taken.open ∷ opens_of (n + 1) later

abbrev pub lines_of : List Taken → List Line
lines_of entries = map (λ (taken : Taken). taken.line.value) entries

-- what is answered where an entry was left open so
abbrev pub took_of : OpenEntry → Took
took_of (entry.Note text) = answer.Answered
took_of (entry.Command slot) = answer.Accepted false
took_of (entry.Packet slot parked) = answer.Accepted parked
took_of (entry.Full slot packet) = answer.Full

-- the slot of a command that was accepted
abbrev pub commanded_by : OpenEntry → Option ℕ
commanded_by (entry.Note text) = None
commanded_by (entry.Command slot) = Some slot
commanded_by (entry.Packet slot parked) = None
commanded_by (entry.Full slot packet) = None

-- the last of these lines is a command of a slot that was accepted
abbrev pub IsLastCommand : ℕ → List Taken → Type 0
IsLastCommand slot entries = (taken : Taken) × (slice_get entries (length entries - 1) ≡ Some taken)
    × (commanded_by taken.open ≡ Some slot)
