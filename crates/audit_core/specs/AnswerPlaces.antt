-- The first sentence: the first line that isn't answered, or an entry of a line too many.
use Rattle.std.specs.Prelude.{◌≡◌, ◌≢◌, ℕ, ◌+◌, ◌==◌, ◌||◌, nat_lt, if◌then◌else◌, Bool, Option, Some, None}
use Rattle.std.specs.Prelude.{List, [], ◌∷◌, ◌++◌, length, find, codes}
use Rattle.demux.specs.Trace.{Meaning, command, packet, move, note}
use Rattle.report_lines.specs.Text.{entry_text}
use Rattle.report_lines.specs.declared.entry.Entry.{Entry}
use Rattle.report_lines.specs.declared.entry.Entry.TheVariants as entry
use Rattle.report_lines.specs.declared.entry.LineEntry.{LineEntry}
use Rattle.report_lines.specs.declared.entry.LineEntry.TheVariants as line
use Rattle.lawful_run.specs.Answers.{Answers, AnswersAll}
use Rattle.audit_core.specs.Entries.{all_lines, in_line_order, line_entries, line_of}
use Rattle.audit_core.specs.Meant.{slot_in}
use Rattle.audit_core.specs.Places.{first_of}
use Rattle.audit_core.specs.Telling.{at_line, dash, tells}
use Rattle.audit_core.specs.declared.telling.Break.{Break}

-- what a line asks for: the entry of its note, or an answer or a refusal
abbrev pub note_due : ℕ → List ℕ → List ℕ
note_due n text = entry_text (entry.Line (line.N (record { line = n; note = text })))

abbrev pub asked : ℕ → Meaning → List ℕ
asked n (note text) = note_due n text
asked n (move slot slice text) = note_due n text
asked n (command slot c) = codes "C or F"
asked n (packet slot p) = codes "P or F"

-- a line that has no entry
abbrev pub missing : ℕ → Meaning → Break
missing n now = record { line = Some n; slot = slot_in now; entry = dash; due = asked n now }

-- A line that isn't answered, and what stands in its place in line order: an entry that answers it wrongly, one that
-- answers a line before it again, or one of a later line.
abbrev pub unanswered : ℕ → Meaning → Option LineEntry → Break
unanswered n now None = missing n now
unanswered n now (Some told) =
    if line_of told == n then at_line told (asked n now)
    else if nat_lt (line_of told) n then at_line told dash
    else missing n now

-- an entry of a line too many: a second answer of the last line, or else the first one of a line that there isn't
abbrev pub is_outside : ℕ → LineEntry → Bool
is_outside count told = line_of told == 0 || nat_lt count (line_of told)

abbrev pub too_many : Option LineEntry → Break
too_many None = tells None None
too_many (Some told) = at_line told dash

abbrev pub surplus : ℕ → List LineEntry → Option LineEntry → Break
surplus count all None = too_many (find (is_outside count) all)
surplus count all (Some told) = at_line told dash

abbrev pub break_at : ℕ → List LineEntry → ℕ → Option Meaning → Option LineEntry → Break
break_at count all n (Some now) told = unanswered n now told
break_at count all n None told = surplus count all told

-- so it is with what is left of the lines and of the entries in line order
abbrev pub Stops : ℕ → List Meaning → List LineEntry → Type 0
Stops n [] entries = Unit {0}
Stops n (now ∷ made) [] = Unit {0}
Stops n (now ∷ made) (told ∷ entries) = ¬ Answers n now told

-- The lines before are answered, one by one, and what is left isn't.
pub record IsUnanswered (made : List (List Meaning)) (entries : List Entry) (told : Break) : Type 0 where
  pub answered : List Meaning
  pub left : List Meaning
  pub answers : List LineEntry
  pub rest : List LineEntry
  pub lines : all_lines made ≡ answered ++ left
  pub in_order : in_line_order (length (all_lines made)) (line_entries entries) ≡ answers ++ rest
  pub each : AnswersAll 1 answered answers
  pub stops : Stops (length answered + 1) left rest
  pub too_many : left ≡ [] → rest ≡ [] → length (line_entries entries) ≢ length (all_lines made)
  pub is : told ≡ break_at (length (all_lines made)) (line_entries entries) (length answered + 1) (first_of left)
      (first_of rest)
