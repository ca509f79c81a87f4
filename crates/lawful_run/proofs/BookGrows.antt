-- A book loses no one from line to line.
use Rattle.std.proofs.Common.{◌≤◌, nat_lt, Bool, true, false, if◌then◌else◌, List, [], ◌∷◌, ◌++◌, ℕ, length, ap, arith, append_assoc, append-nil, length-append}
use Rattle.trace_lines.specs.Line.{Line}
use Rattle.demux.specs.Asked.{Asked, note, admission, of}
use Rattle.demux.specs.Line.{asked}
use Rattle.demux.specs.Resolved.{booked}
use Rattle.demux.specs.Trace.{book_of}
use Rattle.demux.proofs.TraceLemmas.{book_of-push}

length-admitted : (is room : Bool) (book : List (List ℕ)) (digits : List ℕ)
    → length book ≤ length (if room then (if is then book else book ++ digits ∷ []) else book)
length-admitted true true book digits = omega arith
length-admitted false true book digits = omega (arith, length-append book (digits ∷ []))
length-admitted is false book digits = omega arith

length-booked : (book : List (List ℕ)) (asked : Asked) → length book ≤ length (booked book asked)
length-booked book (note text) = omega arith
length-booked book (admission digits asks full) =
    length-admitted _ (nat_lt (length book) 65533) book digits
length-booked book (of whom wish missing) = omega arith

pub book_grows : (lines : List Line) (line : Line) → length (book_of lines) ≤ length (book_of (lines ++ line ∷ []))
book_grows lines line = omega (arith, length-booked (book_of lines) (asked line), ap length (book_of-push lines line))

pub book_grows_all : (lines more : List Line) → length (book_of lines) ≤ length (book_of (lines ++ more))
book_grows_all lines [] = omega (arith, ap (λ l. length (book_of l)) (append-nil lines))
book_grows_all lines (line ∷ more) =
    omega (
      arith,
      book_grows lines line,
      book_grows_all (lines ++ line ∷ []) more,
      ap (λ l. length (book_of l)) (append_assoc lines (line ∷ []) more),
    )
