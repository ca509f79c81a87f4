-- The lines of an input are numbered in their order, and no moment goes back; a bad line has the next number.
use Rattle.std.proofs.Common.{◌≡◌, ℕ, ◌+◌, ◌≤◌, Bool, true, false, nat_lt, nat_le, if◌then◌else◌, List, [], ◌∷◌, ◌++◌, ◌==◌, length, take, refl, subst, Result, Ok, Err, arith}
use Rattle.std.specs.List.{slice_split}
use Rattle.pc_outside.specs.Limits.{input_max, line_max, newline}
use Rattle.text_fields.specs.Fields.{is_empty}
use Rattle.trace_lines.specs.declared.bad.LineBad.{LineBad}
use Rattle.trace_lines.specs.Input.{Input, Stop, bad, big, ended, input_of, input_within, line_then, long, pieces_meaning, rest_meaning, stopped}
use Rattle.trace_lines.specs.Line.{IsLine, Line}
use Rattle.trace_lines.specs.Meaning.{line_meaning}
use Rattle.trace_lines.proofs.MeaningLemmas.{meaning_given}

-- lines of a trace in their order, numbered from this number on, none earlier than this moment
pub record IsNext (n least : ℕ) (line : Line) : Type 0 where
  pub numbered : line.number ≡ n
  pub in_order : least ≤ line.moment
  pub is_line : IsLine line

abbrev pub InOrder : (n least : ℕ) → List Line → Type 0
InOrder n least [] = Unit {0}
InOrder n least (line ∷ lines) = IsNext n least line × InOrder (n + 1) line.moment lines

-- the moment of the last line
abbrev pub latest_in : ℕ → List Line → ℕ
latest_in least [] = least
latest_in least (line ∷ lines) = latest_in line.moment lines

pub in_order_split : (n least : ℕ) (lines more : List Line) → InOrder n least (lines ++ more)
    → InOrder n least lines × InOrder (n + length lines) (latest_in least lines) more
in_order_split n least [] more in_order =
    let same : n ≡ n + 0 = omega arith in (tt, subst (λ k. InOrder k least more) same in_order)
in_order_split n least (line ∷ lines) more in_order =
    let parts = in_order_split (n + 1) line.moment lines more in_order.1 in
    let same : n + 1 + length lines ≡ n + length (line ∷ lines) = omega arith in (
      (in_order.0, parts.0),
      subst (λ k. InOrder k (latest_in line.moment lines) more) same parts.1,
    )

-- a bad line that an input stops at has this number
abbrev pub StopAt : ℕ → Stop → Type 0
StopAt n (bad number why) = number ≡ n
StopAt n (long number) = Unit {0}
StopAt n big = Unit {0}
StopAt n ended = Unit {0}

pub record IsOrdered (n least : ℕ) (input : Input) : Type 0 where
  pub in_order : InOrder n least input.lines
  pub stop : StopAt (n + length input.lines) input.stop

stops : (n least : ℕ) (stop : Stop) → StopAt (n + 0) stop → IsOrdered n least (stopped stop)
stops n least stop at = record { in_order = tt; stop = at }

ordered_then : (n least : ℕ) (text : List ℕ) (read : Result Line LineBad) (behind : Line → Input)
    → line_meaning least n text ≡ read → ((line : Line) → IsOrdered (n + 1) line.moment (behind line))
    → IsOrdered n least (line_then n read behind)
ordered_then n least text (Ok line) behind is each =
    let given = meaning_given least n text line is in
    let same : n + 1 + length (behind line).lines ≡ n + length (line ∷ (behind line).lines) = omega arith in
    record {
      in_order = (
        record { numbered = given.1; in_order = given.2; is_line = given.0.is_line },
        (each line).in_order,
      );
      stop = subst (λ k. StopAt k (behind line).stop) same (each line).stop;
    }
ordered_then n least text (Err why) behind is each = stops n least (bad n why) (omega arith)

by_test : (n least : ℕ) (test : Bool) (one other : Input) → IsOrdered n least one → IsOrdered n least other
    → IsOrdered n least (if test then one else other)
by_test n least true one other first second = first
by_test n least false one other first second = second

of_rest : (full : Bool) (n least : ℕ) (rest : List ℕ) → IsOrdered n least (rest_meaning full n least rest)
of_rest full n least rest =
    by_test n least (nat_lt line_max (length rest)) (stopped (long n)) _ (stops n least (long n) tt)
    (by_test n least full (stopped big) _ (stops n least big tt)
    (by_test n least (is_empty rest) (stopped ended) _ (stops n least ended tt)
    (ordered_then n least rest (line_meaning least n rest) (λ _. stopped ended) refl
    (λ line. stops (n + 1) line.moment ended tt))))

of_pieces : (full : Bool) (n least : ℕ) (pieces : List (List ℕ)) → IsOrdered n least (pieces_meaning full n least pieces)
of_pieces full n least [] = stops n least ended tt
of_pieces full n least (rest ∷ []) = of_rest full n least rest
of_pieces full n least (line ∷ next ∷ pieces) =
    by_test n least (nat_lt line_max (length line)) (stopped (long n)) _ (stops n least (long n) tt)
    (ordered_then n least line (line_meaning least n line)
    (λ l. pieces_meaning full (n + 1) l.moment (next ∷ pieces)) refl
    (λ l. of_pieces full (n + 1) l.moment (next ∷ pieces)))

pub input_in_order : (octets : List ℕ) → IsOrdered 1 0 (input_of octets)
unfolding input_within
input_in_order octets =
    of_pieces (nat_le input_max (length octets)) 1 0
    (slice_split (λ octet. octet == newline) (take input_max octets))
