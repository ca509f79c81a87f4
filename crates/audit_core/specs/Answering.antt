-- Lines with the entries that answer them, one after another.
use Rattle.std.specs.Prelude.{ℕ, ◌+◌, ◌==◌, ◌&&◌, Bool, true, false, if◌then◌else◌, Option, Some, None}
use Rattle.std.specs.Prelude.{List, [], ◌∷◌, ◌++◌, length, drop}
use Rattle.std.specs.Bool.{beq}
use Rattle.std.specs.Str.{bytes_eq}
use Rattle.demux.specs.Trace.{Meaning, command, packet, move, note}
use Rattle.report_lines.specs.declared.entry.LineEntry.{LineEntry}
use Rattle.report_lines.specs.declared.entry.LineEntry.TheVariants as line
use Rattle.report_lines.specs.declared.entry.Refusal.{Refusal}
use Rattle.lawful_run.specs.LinesTold.{LineTold}

-- a note of this line in these words
abbrev pub is_note : ℕ → List ℕ → LineEntry → Bool
is_note n text (line.N noted) = noted.line == n && bytes_eq noted.note text
is_note n text (line.C answered) = false
is_note n text (line.P judged) = false
is_note n text (line.F refused) = false

-- the refusal of this line
abbrev pub is_refusal : ℕ → ℕ → Bool → Refusal → Bool
is_refusal n slot of_packet refused =
    refused.line == n && refused.slot == slot && beq refused.packet of_packet

-- whether an entry answers the line of this number
abbrev pub answers : ℕ → Meaning → LineEntry → Bool
answers n (note text) entry = is_note n text entry
answers n (move slot slice text) entry = is_note n text entry
answers n (command slot c) (line.N noted) = false
answers n (command slot c) (line.C answered) = answered.line == n && answered.slot == slot
answers n (command slot c) (line.P judged) = false
answers n (command slot c) (line.F refused) = is_refusal n slot false refused
answers n (packet slot p) (line.N noted) = false
answers n (packet slot p) (line.C answered) = false
answers n (packet slot p) (line.P judged) = judged.line == n && judged.slot == slot
answers n (packet slot p) (line.F refused) = is_refusal n slot true refused

-- lines with the first of some entries, behind others; None where a line isn't answered
abbrev pub matched_on : ℕ → List LineTold → List Meaning → List LineEntry → Option (List LineTold)
matched_on n before [] entries = Some before
matched_on n before (now ∷ later) [] = None
matched_on n before (now ∷ later) (entry ∷ entries) =
    if answers n now entry then
    matched_on (n + 1) (before ++ record { meaning = now; entry = entry } ∷ []) later entries
    else None

-- the same of epoch after epoch; None where entries are left, too
abbrev pub then_all : (List LineTold → Option (List (List LineTold))) → Option (List LineTold)
    → Option (List (List LineTold))
then_all go None = None
then_all go (Some lines) = go lines

abbrev pub matched_all : ℕ → List (List LineTold) → List (List Meaning) → List LineEntry
    → Option (List (List LineTold))
matched_all n before [] [] = Some before
matched_all n before [] (entry ∷ entries) = None
matched_all n before (made ∷ epochs) entries =
    then_all (λ lines. matched_all (n + length made) (before ++ lines ∷ []) epochs (drop (length made) entries))
    (matched_on n [] made entries)
