-- How far a run has come.
use Rattle.std.specs.Prelude.{◌≡◌, ℕ, ◌+◌, ◌≤◌, false, List, [], ◌∷◌, ◌++◌, length, map, flat_map, codes}
use Rattle.trace_lines.specs.Line.{Line}
use Rattle.trace_lines.specs.Word.{word_of}
use Rattle.demux.specs.Trace.{Meaning, book_of}
use Rattle.report_lines.specs.declared.entry.Entry.TheVariants as entry
use Rattle.report_lines.specs.declared.entry.LineEntry.{LineEntry}
use Rattle.report_lines.specs.declared.entry.LineEntry.TheVariants as line_entry
use Rattle.lawful_run.specs.AnsweredRun.{answered_from, behind_epochs, entries_from}
use Rattle.lawful_run.specs.Cut.{lines_in}
use Rattle.lawful_run.specs.Merging.{Histories}
use Rattle.lawful_run.specs.Outcomes.{opens}
use Rattle.lawful_run.specs.Report.{epoch_entries, texts_of}
use Rattle.lawful_run.specs.Run.{by_slot, no_events}
use Rattle.lawful_run.specs.Trace.{meant_epochs, meant_from}
use Rattle.trace_run.specs.declared.ending.Ending.{Ending}
use Rattle.trace_run.specs.declared.ending.Ending.TheVariants as ending
use Rattle.solo_command.specs.Gateway.{no_subscribers}
use Rattle.solo_command.specs.declared.solo.Solo.{Solo}
use Rattle.solo_command.specs.Entries.{text_line}
use Rattle.solo_command.specs.Gathering.{charges_text, closing_text}
use Rattle.solo_command.specs.Holding.{HasTold}
use Rattle.solo_command.specs.Report.{slices}
use Rattle.solo_command.specs.Standing.{Stands, Story, events_of, story_of}

-- the events of each slot in whole epochs
abbrev pub closed_events : List (List Line) → Histories
closed_events closed = behind_epochs no_events (meant_epochs slices [] closed)

-- what the lines of the open epoch mean
abbrev pub open_meant : List (List Line) → List Line → List Meaning
open_meant closed open_ = meant_from slices (lines_in closed) open_

-- the text of whole epochs, where so many slots are known · of the entries of lines
abbrev pub closed_text : ℕ → List (List Line) → List ℕ
closed_text slots closed =
    texts_of false (flat_map epoch_entries (answered_from slots 1 no_events (meant_epochs slices [] closed)))

abbrev pub entries_text : List LineEntry → List ℕ
entries_text entries = texts_of false (map entry.Line entries)

-- the entries of the open epoch's lines, and of what else stands in it
abbrev pub open_entries : List (List Line) → List Line → List Meaning → List LineEntry
open_entries closed open_ noted =
    entries_from (1 + length (lines_in closed)) (closed_events closed) (open_meant closed open_ ++ noted)

-- the text is that of these epochs, whatever slots are known beside those of their book
abbrev pub SaysClosed : List ℕ → List (List Line) → Type 0
SaysClosed text closed = (slots : ℕ) → length (book_of (lines_in closed)) ≤ slots → text ≡ closed_text slots closed

-- the texts of an epoch's effects and charging records · and of the open counters behind it
abbrev pub end_text : Story → List ℕ
end_text story = closing_text (length story.book) story.before story.made

abbrev pub rest_text : Story → List ℕ
rest_text story = end_text story ++ charges_text (by_slot (length story.book)
    (λ slot. opens slot (events_of story slot)))

-- the entry of a bad line that ended the lines, which has this number
abbrev pub ending_text : ℕ → Ending → List ℕ
ending_text number (ending.BadLine why) =
    text_line (entry.Line (line_entry.N (record { line = number; note = codes "line" ++ 32 ∷ word_of why })))
ending_text number ending.Ended = []
ending_text number ending.ReadFault = []
ending_text number ending.LineLong = []
ending_text number ending.TooLong = []

-- The gateway answered these lines, which are whole epochs and an open one: the former text is that of the whole
-- epochs, and the entries of the open one's lines wait. So it did by what its subscribers hold.
pub record HasAnswered (gateway : Solo) (done : List Line) (latest : ℕ) (closed : List (List Line)) (open_ : List Line)
    (sent waiting : List ℕ) : Type 0 where
  pub parts : done ≡ lines_in closed ++ open_
  pub stands : Stands gateway (story_of done latest (closed_events closed) (open_meant closed open_))
  pub said : SaysClosed sent closed
  pub waits : waiting ≡ entries_text (open_entries closed open_ [])
  pub told : HasTold no_subscribers gateway (length done) latest closed open_ sent waiting
