-- A line that moves a slot is about a slot of the book, and a slice that there is.
use Rattle.std.proofs.Common.{◌≡◌, ℕ, ◌==◌, ◌<◌, Bool, true, false, if◌then◌else◌, List, length, sym, subst, ap, ◌≤◌, arith}
use Rattle.trace_lines.specs.Line.{Line}
use Rattle.demux.specs.Line.{asked}
use Rattle.demux.specs.Resolved.{IsDecision, decided}
use Rattle.demux.specs.Texts.{move_note}
use Rattle.demux.specs.Destinations.{destination}
use Rattle.demux.specs.Trace.{Meaning, command, packet, move, note, book_of, decisions, destination_after, meant}
use Rattle.demux.specs.declared.decision.Decision.{Decision}
use Rattle.demux.specs.declared.decision.Decision.TheVariants as decision
use Rattle.demux.proofs.ResolvedLemmas.{is_decision}
use Rattle.lawful_run.specs.Trace.{meant_next, settled_by}
use Rattle.at_rest.specs.Meant.{IsWithin, Stand}
use Rattle.subscriber.specs.Standing.{SubscriberState}
use Rattle.front_core.specs.Taking.{IsTo}

-- a move is so
abbrev MovesWithin : (slices slots : ℕ) → Meaning → Type 0
MovesWithin slices slots (command slot c) = Unit {0}
MovesWithin slices slots (packet slot p) = Unit {0}
MovesWithin slices slots (move slot slice text) = (slot < slots) × (slice < slices)
MovesWithin slices slots (note text) = Unit {0}

settled_within : (slices slots slot slice : ℕ) (text : List ℕ) (stays : Bool) → (slot < slots) × (slice < slices)
    → MovesWithin slices slots (if stays then note text else move slot slice text)
settled_within slices slots slot slice text true is = tt
settled_within slices slots slot slice text false is = is

decided_within : (slices : ℕ) (book : List (List ℕ)) (before : List Line) (made : Decision)
    → IsDecision slices book made
    → MovesWithin slices (length book) (settled_by slices before (meant slices book (decisions slices before) made))
decided_within slices book before (decision.Command whose c) is = tt
decided_within slices book before (decision.Packet slot p) is = tt
decided_within slices book before (decision.Move slot slice) is =
    settled_within slices (length book) slot slice (move_note (destination slices slot (decisions slices before)) slot slice)
    (slice == destination_after slices slot before) is
decided_within slices book before (decision.Note text) is = tt

to_one : (slices slots : ℕ) (now : Meaning) → IsWithin slots now → MovesWithin slices slots now
    → IsTo slices slots now
to_one slices slots (command slot c) within moves = within
to_one slices slots (packet slot p) within moves = within
to_one slices slots (move slot slice text) within moves = moves
to_one slices slots (note text) within moves = tt

more_within : (slices slots more : ℕ) (now : Meaning) → slots ≤ more → MovesWithin slices slots now
    → MovesWithin slices more now
more_within slices slots more (command slot c) le moves = tt
more_within slices slots more (packet slot p) le moves = tt
more_within slices slots more (move slot slice text) le moves = (omega (arith, moves.0, le), moves.1)
more_within slices slots more (note text) le moves = tt

pub goes_to : (slices : ℕ) (book : List (List ℕ)) (subscribers : List SubscriberState) (slots : ℕ) (prior : List Line)
    (line : Line) (now : Meaning) → Stand slices book subscribers prior → length book ≤ slots
    → now ≡ meant_next slices prior line → IsWithin slots now → IsTo slices slots now
goes_to slices book subscribers slots prior line now stand le means within =
    let moves : MovesWithin slices (length (book_of prior)) (meant_next slices prior line) =
    decided_within slices (book_of prior) prior (decided slices (book_of prior) line)
    (is_decision slices (book_of prior) (asked line)) in
    let count = ap length stand.book_is in
    to_one slices slots now within
    (more_within slices (length (book_of prior)) slots now (omega (arith, le, count))
    (subst (MovesWithin slices (length (book_of prior))) (sym means) moves))
