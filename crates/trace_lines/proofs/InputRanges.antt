-- The lines of an input keep their ranges.
use Rattle.std.proofs.Common.{◌≡◌, ℕ, ◌+◌, Bool, true, false, nat_lt, nat_le, if◌then◌else◌, List, [], ◌∷◌, ◌==◌, length, take, All, refl, Result, Ok, Err}
use Rattle.std.specs.Prelude.{IfOk}
use Rattle.std.specs.List.{AllByRecursion, slice_split}
use Rattle.std.proofs.lemmas.List.Elements.{All-from_recursion}
use Rattle.pc_outside.specs.Limits.{input_max, line_max, newline}
use Rattle.text_fields.specs.Fields.{is_empty}
use Rattle.trace_lines.specs.declared.bad.LineBad.{LineBad}
use Rattle.trace_lines.specs.Input.{Input, big, ended, input_of, input_within, line_then, long, pieces_meaning, rest_meaning, stopped}
use Rattle.trace_lines.specs.Line.{IsLine, Line}
use Rattle.trace_lines.specs.Meaning.{line_meaning}
use Rattle.trace_lines.proofs.MeaningLemmas.{meaning_given}

abbrev pub AreLines : List Line → Type 0
AreLines lines = AllByRecursion IsLine lines

-- a line that is read
pub read_is_line : (least number : ℕ) (text : List ℕ) → IfOk (line_meaning least number text) IsLine
read_is_line least number text = by_reading (line_meaning least number text) refl
  where
    by_reading : (read : Result Line LineBad) → line_meaning least number text ≡ read → IfOk read IsLine
    by_reading (Ok line) is = (meaning_given least number text line is).0.is_line
    by_reading (Err why) is = tt

-- .. and those behind it
pub lines_then : (number : ℕ) (read : Result Line LineBad) (behind : Line → Input) → IfOk read IsLine
    → ((line : Line) → AreLines (behind line).lines) → AreLines (line_then number read behind).lines
lines_then number (Ok line) behind is each = (is, each line)
lines_then number (Err why) behind is each = tt

by_test : (test : Bool) (one other : Input) → AreLines one.lines → AreLines other.lines
    → AreLines (if test then one else other).lines
by_test true one other first second = first
by_test false one other first second = second

of_rest : (full : Bool) (number least : ℕ) (rest : List ℕ) → AreLines (rest_meaning full number least rest).lines
of_rest full number least rest =
    by_test (nat_lt line_max (length rest)) (stopped (long number)) _ tt
    (by_test full (stopped big) _ tt
    (by_test (is_empty rest) (stopped ended) _ tt
    (lines_then number (line_meaning least number rest) (λ _. stopped ended) (read_is_line least number rest)
    (λ line. tt))))

of_pieces : (full : Bool) (number least : ℕ) (pieces : List (List ℕ))
    → AreLines (pieces_meaning full number least pieces).lines
of_pieces full number least [] = tt
of_pieces full number least (rest ∷ []) = of_rest full number least rest
of_pieces full number least (line ∷ next ∷ pieces) =
    by_test (nat_lt line_max (length line)) (stopped (long number)) _ tt
    (lines_then number (line_meaning least number line)
    (λ l. pieces_meaning full (number + 1) l.moment (next ∷ pieces)) (read_is_line least number line)
    (λ l. of_pieces full (number + 1) l.moment (next ∷ pieces)))

of_input : (room number least : ℕ) (octets : List ℕ) → All IsLine (input_within room number least octets).lines
unfolding input_within
of_input room number least octets =
    All-from_recursion IsLine _ (of_pieces (nat_le room (length octets)) number least
    (slice_split (λ octet. octet == newline) (take room octets)))

pub of_octets : (octets : List ℕ) → All IsLine (input_of octets).lines
of_octets octets = of_input input_max 1 0 octets
