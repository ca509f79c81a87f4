-- One line more.
use Rattle.std.proofs.Common.{◌≡◌, ℕ, List, [], ◌∷◌, ◌++◌, append_assoc, append-nil, refl, sym, ap, ◌∙◌}
use Rattle.std.specs.Prelude.{fold}
use Rattle.trace_lines.specs.Line.{Line}
use Rattle.demux.specs.Destinations.{bound_for, start_slice, destination}
use Rattle.demux.specs.Resolved.{decided, book_after}
use Rattle.demux.specs.Trace.{book_of, decisions_from, decisions, destination_after, meaning, meanings_from}

fold-push : {X Y : Type 0} (f : Y → X → Y) (y : Y) (xs : List X) (x : X) → fold f y (xs ++ x ∷ []) ≡ f (fold f y xs) x
fold-push f y [] x = refl
fold-push f y (first ∷ xs) x = fold-push f (f y first) xs x

pub book_of-push : (lines : List Line) (line : Line) → book_of (lines ++ line ∷ []) ≡ book_after (book_of lines) line
book_of-push lines line = fold-push book_after [] lines line

decisions_from-push : (slices : ℕ) (book : List (List ℕ)) (lines : List Line) (line : Line)
    → decisions_from slices book (lines ++ line ∷ []) ≡ decisions_from slices book lines
    ++ decided slices (fold book_after book lines) line ∷ []
decisions_from-push slices book [] line = refl
decisions_from-push slices book (first ∷ lines) line =
    ap (λ rest. decided slices book first ∷ rest) (decisions_from-push slices (book_after book first) lines line)

pub decisions-push : (slices : ℕ) (lines : List Line) (line : Line)
    → decisions slices (lines ++ line ∷ []) ≡ decisions slices lines ++ decided slices (book_of lines) line ∷ []
decisions-push slices lines line = decisions_from-push slices [] lines line

pub destination_after-push : (slices slot : ℕ) (lines : List Line) (line : Line)
    → destination_after slices slot (lines ++ line ∷ [])
    ≡ bound_for slot (destination_after slices slot lines) (decided slices (book_of lines) line)
destination_after-push slices slot lines line =
    ap (destination slices slot) (decisions-push slices lines line)
    ∙ fold-push (bound_for slot) (start_slice slices slot) (decisions slices lines) (decided slices (book_of lines) line)

pub meanings_from-push : (slices : ℕ) (before lines : List Line) (line : Line)
    → meanings_from slices before (lines ++ line ∷ []) ≡ meanings_from slices before lines
    ++ meaning slices (before ++ lines) line ∷ []
meanings_from-push slices before [] line = ap (λ lines. meaning slices lines line ∷ []) (sym (append-nil before))
meanings_from-push slices before (first ∷ lines) line =
    ap (λ rest. meaning slices before first ∷ rest)
    (meanings_from-push slices (before ++ first ∷ []) lines line
    ∙ ap (λ all. meanings_from slices (before ++ first ∷ []) lines ++ meaning slices all line ∷ [])
    (append_assoc before (first ∷ []) lines))
