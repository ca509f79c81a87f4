-- Which reports a trace may have: what its lines mean, epoch by epoch, and the bad line that it may stop at.
use Rattle.std.specs.Prelude.{ℕ, ◌==◌, Bool, false, if◌then◌else◌, List, [], ◌∷◌, ◌++◌, length, codes}
use Rattle.trace_lines.specs.Epochs.{ends_epoch, epochs_of}
use Rattle.trace_lines.specs.Input.{Input, Stop, bad, long, big, ended}
use Rattle.trace_lines.specs.Line.{Line}
use Rattle.trace_lines.specs.Word.{word_of}
use Rattle.demux.specs.Trace.{Meaning, command, packet, move, note, book_of, meaning, destination_after}
use Rattle.lawful_run.specs.AnsweredRun.{answered_run}
use Rattle.lawful_run.specs.Setup.{Setup, slices_of}
use Rattle.lawful_run.specs.Report.{Report}
use Rattle.lawful_run.specs.Run.{IsRun}

-- an instruction to move a subscriber where it is bound for already moves nothing
abbrev pub settled_by : ℕ → List Line → Meaning → Meaning
settled_by slices before (command slot c) = command slot c
settled_by slices before (packet slot p) = packet slot p
settled_by slices before (move slot slice text) =
    if slice == destination_after slices slot before then note text else move slot slice text
settled_by slices before (note text) = note text

-- what a line means behind lines
abbrev pub meant_next : ℕ → List Line → Line → Meaning
meant_next slices before line = settled_by slices before (meaning slices before line)

-- what lines mean, each behind those before it
abbrev pub meant_from : ℕ → List Line → List Line → List Meaning
meant_from slices before [] = []
meant_from slices before (line ∷ lines) =
    meant_next slices before line ∷ meant_from slices (before ++ line ∷ []) lines

-- a bad line is noted with the word of its fault; no other stop has an entry
abbrev pub stop_noted : Stop → List Meaning
stop_noted (bad n why) = note (codes "line" ++ 32 ∷ word_of why) ∷ []
stop_noted (long n) = []
stop_noted big = []
stop_noted ended = []

-- whether the last of these lines ends an epoch, where those before them didn't
abbrev pub is_whole : List Line → List Line → Bool
is_whole before [] = false
is_whole before (line ∷ []) = ends_epoch before line
is_whole before (line ∷ next ∷ lines) = is_whole (before ++ line ∷ []) (next ∷ lines)

-- what whole epochs mean, behind these lines
abbrev pub meant_epochs : ℕ → List Line → List (List Line) → List (List Meaning)
meant_epochs slices before [] = []
meant_epochs slices before (epoch ∷ epochs) =
    meant_from slices before epoch ∷ meant_epochs slices (before ++ epoch) epochs

-- what epochs mean, behind these lines; a bad line stands in the last one, or in one of its own where that is whole
abbrev pub own_epoch : List Meaning → List (List Meaning)
own_epoch [] = []
own_epoch (noted ∷ others) = (noted ∷ others) ∷ []

abbrev pub with_noted : Bool → List Meaning → List Meaning → List (List Meaning)
with_noted whole made noted = if whole then made ∷ own_epoch noted else (made ++ noted) ∷ []

abbrev pub epochs_from : ℕ → List Line → List (List Line) → List Meaning → List (List Meaning)
epochs_from slices before [] noted = own_epoch noted
epochs_from slices before (last ∷ []) noted = with_noted (is_whole [] last) (meant_from slices before last) noted
epochs_from slices before (epoch ∷ next ∷ epochs) noted =
    meant_from slices before epoch ∷ epochs_from slices (before ++ epoch) (next ∷ epochs) noted

abbrev pub epochs_told : ℕ → Input → List (List Meaning)
epochs_told slices input = epochs_from slices [] (epochs_of input.lines) (stop_noted input.stop)

-- lines that no line has ended are an epoch, if there are any
abbrev pub open_epoch : List Line → List (List Line)
open_epoch [] = []
open_epoch (line ∷ lines) = (line ∷ lines) ∷ []

-- how many slots the book has behind the lines
abbrev pub slots_of : Input → ℕ
slots_of input = length (book_of input.lines)

-- a report that the trace may have under a setup, and that of the sequential gateway
abbrev pub IsReport : Setup → Input → Report → Type 0
IsReport setup input report = IsRun setup (slots_of input) (epochs_told (slices_of setup) input) report

abbrev pub answered_report : Setup → Input → Report
answered_report setup input = answered_run (slots_of input) (epochs_told (slices_of setup) input)
