-- The entries that the sequential gateway makes: line by line, epoch by epoch.
use Rattle.std.specs.Prelude.{ℕ, ◌+◌, ◌==◌, false, if◌then◌else◌, Some, List, [], ◌∷◌, ◌++◌, length}
use Rattle.pc_base.specs.declared.packet.Place.TheVariants.{Closing}
use Rattle.demux.specs.Trace.{Meaning, command, packet, move, note}
use Rattle.gate_model.specs.Events.{commands_of, packets_of}
use Rattle.gate_model.specs.SlotPast.{reply_after, verdict_after}
use Rattle.gate_model.specs.declared.event.Event.{Event}
use Rattle.gate_model.specs.declared.event.Event.TheVariants as event
use Rattle.report_lines.specs.declared.entry.LineEntry.{LineEntry}
use Rattle.report_lines.specs.declared.entry.LineEntry.TheVariants as line
use Rattle.demux.specs.Packets.{numbered}
use Rattle.lawful_run.specs.Merging.{Histories}
use Rattle.lawful_run.specs.Outcomes.{effects, rows, opens}
use Rattle.lawful_run.specs.Report.{EpochReport, Report}
use Rattle.lawful_run.specs.Run.{by_slot, no_events}

-- the entry of the line of this number, behind the events of each slot
abbrev pub entry_after : ℕ → Histories → Meaning → LineEntry
entry_after n before (note text) = line.N (record { line = n; note = text })
entry_after n before (move slot slice text) = line.N (record { line = n; note = text })
entry_after n before (command slot c) = line.C (record {
  line = n;
  slot = slot;
  number = length (commands_of (before slot));
  reply = reply_after slot (before slot) c;
})
entry_after n before (packet slot p) = line.P (record {
  line = n;
  slot = slot;
  number = length (packets_of (before slot));
  commands = length (commands_of (before slot));
  verdict = verdict_after slot (before slot) (numbered (length (packets_of (before slot))) p);
  place = Some Closing;
  parked = false;
})

-- the events of a slot behind a line, and behind some
abbrev pub with_line : ℕ → List Event → Meaning → List Event
with_line slot events (note text) = events
with_line slot events (move own slice text) = events
with_line slot events (command own c) = if own == slot then events ++ event.Command c ∷ [] else events
with_line slot events (packet own p) =
    if own == slot then events ++ event.Packet (numbered (length (packets_of events)) p) ∷ [] else events

abbrev pub events_after : ℕ → List Event → List Meaning → List Event
events_after slot events [] = events
events_after slot events (now ∷ later) = events_after slot (with_line slot events now) later

-- those of each slot
abbrev pub behind_line : Histories → Meaning → Histories
behind_line before now = λ slot. with_line slot (before slot) now

abbrev pub behind_lines : Histories → List Meaning → Histories
behind_lines before made = λ slot. events_after slot (before slot) made

-- the events that lines bring to a slot
abbrev pub brings : ℕ → List Event → Meaning → List Event
brings slot events (note text) = []
brings slot events (move own slice text) = []
brings slot events (command own c) = if own == slot then event.Command c ∷ [] else []
brings slot events (packet own p) =
    if own == slot then event.Packet (numbered (length (packets_of events)) p) ∷ [] else []

abbrev pub brought : ℕ → List Event → List Meaning → List Event
brought slot events [] = []
brought slot events (now ∷ later) = brings slot events now ++ brought slot (with_line slot events now) later

-- the entries of lines from this number on
abbrev pub entries_from : ℕ → Histories → List Meaning → List LineEntry
entries_from n before [] = []
entries_from n before (now ∷ later) = entry_after n before now ∷ entries_from (n + 1) (behind_line before now) later

-- an epoch: its lines' entries, and by slot the effects and charging records of the events that they bring
abbrev pub answered_epoch : ℕ → ℕ → Histories → List Meaning → EpochReport
answered_epoch slots first before made = record {
  lines = entries_from first before made;
  effects = by_slot slots (λ slot. effects slot (before slot) (brought slot (before slot) made));
  rows = by_slot slots (λ slot. rows slot (before slot) (brought slot (before slot) made));
}

abbrev pub answered_from : ℕ → ℕ → Histories → List (List Meaning) → List EpochReport
answered_from slots first before [] = []
answered_from slots first before (made ∷ epochs) =
    answered_epoch slots first before made ∷ answered_from slots (first + length made) (behind_lines before made) epochs

-- the events of each slot in all epochs
abbrev pub behind_epochs : Histories → List (List Meaning) → Histories
behind_epochs before [] = before
behind_epochs before (made ∷ epochs) = behind_epochs (behind_lines before made) epochs

-- the report of a trace: the open counters stand behind its epochs
abbrev pub answered_run : ℕ → List (List Meaning) → Report
answered_run slots made = record {
  epochs = answered_from slots 1 no_events made;
  opens = by_slot slots (λ slot. opens slot (behind_epochs no_events made slot));
}
