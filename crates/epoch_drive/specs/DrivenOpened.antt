-- The entries of an epoch's lines, open but for what the schedule says.
use Rattle.std.specs.Prelude.{ℕ, ◌+◌, List, [], ◌∷◌}
use Rattle.demux.specs.Trace.{Meaning, command, packet, move, note}
use Rattle.report_lines.specs.declared.entry.LineEntry.{LineEntry}
use Rattle.report_lines.specs.declared.entry.LineEntry.TheVariants as line
use Rattle.lawful_run.specs.Opened.{open_command, open_packet}
use Rattle.epoch_schedule.specs.Front.{Outcome}

abbrev pub open_entry : ℕ → Meaning → Outcome → LineEntry
open_entry n (note text) outcome = line.N (record { line = n; note = text })
open_entry n (move slot slice text) outcome = line.N (record { line = n; note = text })
open_entry n (command slot c) outcome = open_command n slot outcome.taken
open_entry n (packet slot p) outcome = open_packet n slot outcome.taken outcome.parked

abbrev pub open_entries : ℕ → List Meaning → List Outcome → List LineEntry
open_entries n [] outcomes = []
open_entries n (now ∷ made) [] = []
open_entries n (now ∷ made) (outcome ∷ outcomes) = open_entry n now outcome ∷ open_entries (n + 1) made outcomes
