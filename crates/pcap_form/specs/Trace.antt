-- The trace of records: a line for each that carries one, with its moment.
use Rattle.std.specs.Prelude.{ℕ, ◌-◌, ◌^◌, max, min, List, [], ◌∷◌, ◌++◌, flat_map, Option, None, Some}
use Rattle.pc_outside.specs.Limits.{newline}
use Rattle.trace_lines.specs.Kind.{LineKind}
use Rattle.trace_lines.specs.Text.{line_text}
use Rattle.pcap_form.specs.Record.{Record}

-- what a line says, and when: a line without its number
pub record Stamped : Type 0 where
  pub moment : ℕ
  pub kind : LineKind

-- microseconds behind the first record, not before the record before, and as late as a moment can be
abbrev pub moment_of : ℕ → ℕ → ℕ → ℕ
moment_of first least time = min (2 ^ 50 - 1) (max least (time - first))

abbrev pub stamped : ℕ → Option LineKind → List Stamped
stamped moment None = []
stamped moment (Some said) = record { moment = moment; kind = said } ∷ []

-- records behind others: the first of all was at this time, and the last before them at this moment
abbrev pub lines_from : ℕ → ℕ → List Record → List Stamped
lines_from first least [] = []
lines_from first least (one ∷ records) =
    let moment = moment_of first least one.time in stamped moment one.said ++ lines_from first moment records

abbrev pub first_time : List Record → ℕ
first_time [] = 0
first_time (one ∷ records) = one.time

abbrev pub lines_of : List Record → List Stamped
lines_of records = lines_from (first_time records) 0 records

-- the text of a line with its newline; a line's number is no part of it
abbrev pub stamped_text : Stamped → List ℕ
stamped_text line = line_text (record { number = 0; moment = line.moment; kind = line.kind }) ++ newline ∷ []

abbrev pub text_of : List Stamped → List ℕ
text_of lines = flat_map stamped_text lines

abbrev pub trace_of : List Record → List ℕ
trace_of records = text_of (lines_of records)
