-- The note of the line that a run stops at, behind the lines before it.
use Rattle.std.specs.Prelude.{ℕ, Option, None, Some, List, [], ◌∷◌, ◌++◌, codes}
use Rattle.trace_lines.specs.Line.{Line}
use Rattle.trace_lines.specs.Word.{word_of}
use Rattle.trace_lines.specs.declared.bad.LineBad.{LineBad}
use Rattle.demux.specs.Trace.{Meaning, note}
use Rattle.report_lines.specs.declared.entry.LineEntry.{LineEntry}
use Rattle.lawful_run.specs.Cut.{lines_in}
use Rattle.lawful_run.specs.Noted.{note_entry, with_note}
use Rattle.lawful_run.specs.Report.{EpochReport}
use Rattle.lawful_run.specs.Trace.{meant_epochs, meant_from, own_epoch}
use Rattle.trace_run.specs.declared.ending.Ending.{Ending}
use Rattle.trace_run.specs.declared.ending.Ending.TheVariants.{Ended, ReadFault, BadLine, LineLong, TooLong}

-- why the next line can't be read, where lines end so
abbrev pub bad_at : Ending → Option LineBad
bad_at Ended = None
bad_at ReadFault = None
bad_at (BadLine why) = Some why
bad_at LineLong = None
bad_at TooLong = None

-- what such a line means, and its entry
abbrev pub words_of : LineBad → List ℕ
words_of why = codes "line" ++ 32 ∷ word_of why

abbrev pub noted_meant : Option LineBad → List Meaning
noted_meant None = []
noted_meant (Some why) = note (words_of why) ∷ []

abbrev pub noted : Option LineBad → ℕ → List LineEntry
noted None n = []
noted (Some why) n = note_entry n (words_of why) ∷ []

-- what is told of the last epoch, with the entry behind those of its lines
abbrev pub noted_entry : EpochReport → Option LineBad → ℕ → EpochReport
noted_entry told None n = told
noted_entry told (Some why) n = with_note told n (words_of why)

-- what whole epochs mean, and the lines of the open one with the note behind them
abbrev pub meant_all : (slices : ℕ) → List (List Line) → List Line → Option LineBad → List (List Meaning)
meant_all slices closed open_ bad =
    meant_epochs slices [] closed ++ own_epoch (meant_from slices (lines_in closed) open_ ++ noted_meant bad)
