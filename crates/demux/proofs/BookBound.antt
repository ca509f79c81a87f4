-- A book has no more subscribers than the pool has addresses.
use Rattle.std.proofs.Common.{◌≡◌, ℕ, ◌≤◌, nat_lt, Bool, true, false, if◌then◌else◌, List, [], ◌∷◌, ◌++◌, length, fold, refl, arith, length-append}
use Rattle.std.proofs.lemmas.Bool.{ltb-true}
use Rattle.trace_lines.specs.Line.{Line}
use Rattle.demux.specs.Asked.{Asked, note, admission, of}
use Rattle.demux.specs.Line.{asked}
use Rattle.demux.specs.Resolved.{book_after, booked}
use Rattle.demux.specs.Trace.{book_of}

admitted_most : (is room : Bool) (book : List (List ℕ)) (digits : List ℕ) → nat_lt (length book) 65533 ≡ room
    → length book ≤ 65533
    → length (if room then (if is then book else book ++ digits ∷ []) else book) ≤ 65533
admitted_most true true book digits same most = most
admitted_most false true book digits same most =
    omega (arith, ltb-true (length book) 65533 same, length-append book (digits ∷ []))
admitted_most is false book digits same most = most

booked_most : (book : List (List ℕ)) (what : Asked) → length book ≤ 65533 → length (booked book what) ≤ 65533
booked_most book (note text) most = most
booked_most book (admission digits asks full) most =
    admitted_most _ (nat_lt (length book) 65533) book digits refl most
booked_most book (of whom wish missing) most = most

most_from : (book : List (List ℕ)) (lines : List Line) → length book ≤ 65533
    → length (fold book_after book lines) ≤ 65533
most_from book [] most = most
most_from book (line ∷ lines) most = most_from (book_after book line) lines (booked_most book (asked line) most)

pub book_most : (lines : List Line) → length (book_of lines) ≤ 65533
book_most lines = most_from [] lines (omega arith)
