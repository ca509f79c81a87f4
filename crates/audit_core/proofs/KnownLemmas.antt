-- Each line is about a slot of the book behind the lines.
use Rattle.std.proofs.Common.{ℕ, ◌<◌, ◌≤◌, ◌==◌, Bool, true, false, if◌then◌else◌, List, [], ◌∷◌, ◌++◌, All, length, ap, arith, append_assoc, length-append}
use Rattle.std.proofs.lemmas.List.Elements.{All-append, All-cons, All-nil}
use Rattle.trace_lines.specs.Line.{Line}
use Rattle.demux.specs.Line.{asked}
use Rattle.demux.specs.Resolved.{IsDecision, book_behind, decided}
use Rattle.demux.specs.Trace as trace
use Rattle.demux.specs.Trace.{Meaning, book_of, decisions, destination_after, meaning, meant}
use Rattle.demux.specs.declared.decision.Decision.{Decision}
use Rattle.demux.specs.declared.decision.Decision.TheVariants as decision
use Rattle.demux.specs.declared.decision.Whose.TheVariants as whose
use Rattle.demux.proofs.ResolvedLemmas.{book_resolved, is_decision}
use Rattle.demux.proofs.TraceLemmas.{book_of-push}
use Rattle.lawful_run.proofs.BookGrows.{book_grows, book_grows_all}
use Rattle.lawful_run.specs.Trace.{meant_epochs, meant_from, own_epoch, settled_by}
use Rattle.lawful_run.specs.Cut.{IsCut, lines_in}
use Rattle.audit_core.specs.Holding.{AreKnown, IsKnown}
use Rattle.audit_core.proofs.CutLemmas.{cut_told}

-- a decision is for a slot of the book behind it
settled_known : (slices slots slot slice : ℕ) (text : List ℕ) (before : List Line) (test : Bool) → slot < slots
    → IsKnown slots (if test then trace.note text else trace.move slot slice text)
settled_known slices slots slot slice text before true below = tt
settled_known slices slots slot slice text before false below = below

decided_known : (slices slots : ℕ) (before : List Line) (book : List (List ℕ)) (made : Decision)
    → IsDecision slices book made
    → length book ≤ slots → length (book_behind book made) ≤ slots
    → IsKnown slots (settled_by slices before (meant slices book (decisions slices before) made))
decided_known slices slots before book (decision.Command (whose.Known at) asks) is below behind =
    omega (arith, is, below)
decided_known slices slots before book (decision.Command (whose.New digits) asks) is below behind =
    omega (arith, behind, length-append book (digits ∷ []))
decided_known slices slots before book (decision.Packet at lent) is below behind = omega (arith, is, below)
decided_known slices slots before book (decision.Move at slice) is below behind =
    settled_known slices slots at slice _ before (slice == destination_after slices at before)
    (omega (arith, is.0, below))
decided_known slices slots before book (decision.Note text) is below behind = tt

line_known : (slices slots : ℕ) (before : List Line) (line : Line) → length (book_of (before ++ line ∷ [])) ≤ slots
    → IsKnown slots (settled_by slices before (meaning slices before line))
line_known slices slots before line below =
    decided_known slices slots before (book_of before) (decided slices (book_of before) line)
    (is_decision slices (book_of before) (asked line)) (omega (arith, below, book_grows before line))
    (omega (
      arith,
      below,
      ap length (book_resolved slices (book_of before) (asked line)),
      ap length (book_of-push before line),
    ))

pub lines_known : (slices slots : ℕ) (before lines : List Line) → length (book_of (before ++ lines)) ≤ slots
    → All (IsKnown slots) (meant_from slices before lines)
lines_known slices slots before [] below = All-nil (IsKnown slots)
lines_known slices slots before (line ∷ lines) below =
    let same = ap (λ l. length (book_of l)) (append_assoc before (line ∷ []) lines) in
    All-cons (IsKnown slots) _ _
    (line_known slices slots before line (omega (arith, below, same, book_grows_all (before ++ line ∷ []) lines)))
    (lines_known slices slots (before ++ line ∷ []) lines (omega (arith, below, same)))

epochs_known : (slices slots : ℕ) (before : List Line) (closed : List (List Line))
    → length (book_of (before ++ lines_in closed)) ≤ slots
    → AreKnown slots (meant_epochs slices before closed)
epochs_known slices slots before [] below = All-nil (All (IsKnown slots))
epochs_known slices slots before (epoch ∷ closed) below =
    let same = ap (λ l. length (book_of l)) (append_assoc before epoch (lines_in closed)) in
    All-cons (All (IsKnown slots)) _ _
    (lines_known slices slots before epoch
    (omega (arith, below, same, book_grows_all (before ++ epoch) (lines_in closed))))
    (epochs_known slices slots (before ++ epoch) closed (omega (arith, below, same)))

own_known : (slots : ℕ) (made : List Meaning) → All (IsKnown slots) made → AreKnown slots (own_epoch made)
own_known slots [] known = All-nil (All (IsKnown slots))
own_known slots (now ∷ later) known =
    All-cons (All (IsKnown slots)) (now ∷ later) [] known (All-nil (All (IsKnown slots)))

pub told_known : (slices slots : ℕ) (done : List Line) (closed : List (List Line)) (open_ : List Line)
    (noted : List Meaning) → IsCut done closed open_ → length (book_of done) ≤ slots
    → All (IsKnown slots) noted → AreKnown slots (cut_told slices closed open_ noted)
told_known slices slots done closed open_ noted cut below known =
    let all = ap (λ l. length (book_of l)) cut.parts in
    All-append (All (IsKnown slots)) (meant_epochs slices [] closed) _
    (epochs_known slices slots [] closed (omega (arith, below, all, book_grows_all (lines_in closed) open_)))
    (own_known slots (meant_from slices (lines_in closed) open_ ++ noted)
    (All-append (IsKnown slots) (meant_from slices (lines_in closed) open_) noted
    (lines_known slices slots (lines_in closed) open_ (omega (arith, below, all))) known))
