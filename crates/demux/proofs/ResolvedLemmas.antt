-- What a decision keeps by its book, and the book behind it.
use Rattle.std.proofs.Common.{◌≡◌, ℕ, ◌<◌, nat_lt, Bool, true, false, Option, Some, None, if◌then◌else◌, List, length, refl, sym, ap, subst, ◌∙◌}
use Rattle.std.specs.Prelude.{IfSome, IfOk, Result, Ok, Err}
use Rattle.std.proofs.lemmas.Bool.{ltb-true}
use Rattle.std.proofs.lemmas.List.Quantifiers.{position-Some}
use Rattle.std.specs.Str.{bytes_eq}
use Rattle.address_book.specs.Book.{slot_in}
use Rattle.trace_lines.specs.Line.{Line}
use Rattle.control_steps.specs.declared.command.CommandKind.{CommandKind}
use Rattle.demux.specs.declared.decision.Decision.{Decision}
use Rattle.demux.specs.declared.decision.Decision.TheVariants.{Move, Note}
use Rattle.demux.specs.Asked.{Asked, Whom, Wish, imsi, slot, command, packet, move, noted, note, admission, of}
use Rattle.demux.specs.Resolved.{found_in, wished_by, whose_where, whose_in, admitting, resolved, with_imsi, booked, book_behind, IsDue, IsDecision, decided, book_after}
use Rattle.demux.specs.Line.{asked}

-- a slot of the book is one of its places
slot_below : (book : List (List ℕ)) (digits : List ℕ) (at : ℕ) → slot_in book digits ≡ Some at → at < length book
slot_below book digits at is = (position-Some (bytes_eq digits) book at digits is).0

-- the book behind an admission
by_admission : (book : List (List ℕ)) (digits : List ℕ) (asks : CommandKind) (full : List ℕ) (found : Option ℕ)
    (room : Bool)
    → slot_in book digits ≡ found → nat_lt (length book) 65533 ≡ room
    → book_behind book (admitting (whose_in book digits) asks full) ≡ with_imsi book digits
by_admission book digits asks full (Some at) true is left = rw (is, left) refl
by_admission book digits asks full (Some at) false is left = rw (is, left) refl
by_admission book digits asks full None true is left = rw (is, left) refl
by_admission book digits asks full None false is left = rw (is, left) refl

-- a wish leaves the book
by_move : (book : List (List ℕ)) (at slice : ℕ) (text : List ℕ) (is : Bool)
    → book_behind book (if is then Move at slice else Note text) ≡ book
by_move book at slice text true = refl
by_move book at slice text false = refl

by_wish : (slices : ℕ) (book : List (List ℕ)) (found : Option ℕ) (wish : Wish) (missing : List ℕ)
    → book_behind book (wished_by slices found wish missing) ≡ book
by_wish slices book None wish missing = refl
by_wish slices book (Some at) (command asks) missing = refl
by_wish slices book (Some at) (packet lent) missing = refl
by_wish slices book (Some at) (move slice) missing = by_move book at slice _ (nat_lt slice slices)
by_wish slices book (Some at) (noted text) missing = refl

pub book_resolved : (slices : ℕ) (book : List (List ℕ)) (asked : Asked)
    → book_behind book (resolved slices book asked) ≡ booked book asked
unfolding resolved
book_resolved slices book (note text) = refl
book_resolved slices book (admission digits asks full) =
    by_admission book digits asks full (slot_in book digits) (nat_lt (length book) 65533) refl refl
book_resolved slices book (of whom wish missing) = by_wish slices book (found_in book whom) wish missing

-- whom an admission is for
due : (book : List (List ℕ)) (digits : List ℕ) (found : Option ℕ) (room : Bool) → slot_in book digits ≡ found
    → nat_lt (length book) 65533 ≡ room
    → IfSome (whose_where book digits found) (IsDue book)
due book digits (Some at) room is left = slot_below book digits at is
due book digits None true is left = rw left (is, ltb-true _ _ left)
due book digits None false is left = rw left tt

of_admission : (slices : ℕ) (book : List (List ℕ)) (whose : _) (asks : CommandKind) (full : List ℕ)
    → IfSome whose (IsDue book)
    → IsDecision slices book (admitting whose asks full)
of_admission slices book (Some whose) asks full is = is
of_admission slices book None asks full is = tt

-- the slot that is found is one of the book
found_below : (book : List (List ℕ)) (whom : Whom) (found : Option ℕ) → found_in book whom ≡ found
    → IfSome found (λ at. at < length book)
found_below book whom None is = tt
found_below book (imsi digits) (Some at) is = slot_below book digits at is
found_below book (slot number) (Some at) is = below (nat_lt number (length book)) refl is
  where
    below : (test : Bool) → nat_lt number (length book) ≡ test → (if test then Some number else None) ≡ Some at
        → at < length book
    below true holds same = let own : number ≡ at = cc in subst (λ n. n < length book) own (ltb-true _ _ holds)
    below false fails same = absurd cc

move_is : (slices : ℕ) (book : List (List ℕ)) (at slice : ℕ) (text : List ℕ) (test : Bool)
    → nat_lt slice slices ≡ test → at < length book
    → IsDecision slices book (if test then Move at slice else Note text)
move_is slices book at slice text true holds below = (below, ltb-true _ _ holds)
move_is slices book at slice text false fails below = tt

of_wish : (slices : ℕ) (book : List (List ℕ)) (found : Option ℕ) (wish : Wish) (missing : List ℕ)
    → IfSome found (λ at. at < length book)
    → IsDecision slices book (wished_by slices found wish missing)
of_wish slices book None wish missing below = tt
of_wish slices book (Some at) (command asks) missing below = below
of_wish slices book (Some at) (packet lent) missing below = below
of_wish slices book (Some at) (move slice) missing below =
    move_is slices book at slice _ (nat_lt slice slices) refl below
of_wish slices book (Some at) (noted text) missing below = tt

pub is_decision : (slices : ℕ) (book : List (List ℕ)) (asked : Asked)
    → IsDecision slices book (resolved slices book asked)
unfolding resolved
is_decision slices book (note text) = tt
is_decision slices book (admission digits asks full) =
    of_admission slices book (whose_in book digits) asks full
    (due book digits (slot_in book digits) (nat_lt (length book) 65533) refl refl)
is_decision slices book (of whom wish missing) =
    of_wish slices book (found_in book whom) wish missing (found_below book whom (found_in book whom) refl)

-- the same of an answer
pub book_if_ok : {E : Type 0} (slices : ℕ) (book : List (List ℕ)) (line : Line) (answer : Result Decision E)
    → IfOk answer (λ decision. decision ≡ decided slices book line)
    → IfOk answer (λ decision. book_behind book decision ≡ book_after book line)
book_if_ok slices book line (Ok decision) is = ap (book_behind book) is ∙ book_resolved slices book (asked line)
book_if_ok slices book line (Err e) is = tt

pub valid_if_ok : {E : Type 0} (slices : ℕ) (book : List (List ℕ)) (line : Line) (answer : Result Decision E)
    → IfOk answer (λ decision. decision ≡ decided slices book line) → IfOk answer (IsDecision slices book)
valid_if_ok slices book line (Ok decision) is =
    subst (IsDecision slices book) (sym is) (is_decision slices book (asked line))
valid_if_ok slices book line (Err e) is = tt
