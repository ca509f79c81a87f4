-- What lines mean that are cut into whole epochs and an open one.
use Rattle.std.proofs.Common.{◌≡◌, ℕ, true, false, List, [], ◌∷◌, ◌++◌, All, refl, sym, ap, ◌∙◌, append_assoc, append-nil}
use Rattle.std.specs.List.{flat_map}
use Rattle.std.proofs.lemmas.List.Elements.{All-head, All-tail}
use Rattle.trace_lines.specs.Line.{Line}
use Rattle.demux.specs.Trace.{Meaning, meaning}
use Rattle.lawful_run.specs.Trace.{settled_by, meant_from, meant_epochs, is_whole, own_epoch, with_noted, epochs_from, open_epoch}

-- whole epochs are whole
abbrev pub AreWhole : List (List Line) → Type 0
AreWhole closed = All (λ epoch. is_whole [] epoch ≡ true) closed

-- behind a whole epoch the others go on
behind_whole : (slices : ℕ) (before epoch : List Line) (epochs : List (List Line)) (noted : List Meaning)
    → is_whole [] epoch ≡ true
    → epochs_from slices before (epoch ∷ epochs) noted ≡ meant_from slices before epoch
    ∷ epochs_from slices (before ++ epoch) epochs noted
behind_whole slices before epoch [] noted whole =
    ap (λ test. with_noted test (meant_from slices before epoch) noted) whole
behind_whole slices before epoch (next ∷ epochs) noted whole = refl

open_last : (slices : ℕ) (before open_ : List Line) (noted : List Meaning) → is_whole [] open_ ≡ false
    → epochs_from slices before (open_epoch open_) noted ≡ own_epoch (meant_from slices before open_ ++ noted)
open_last slices before [] noted unfinished = refl
open_last slices before (line ∷ lines) noted unfinished =
    ap (λ test. with_noted test (meant_from slices before (line ∷ lines)) noted) unfinished

-- lines in whole epochs and an open one mean this, with what is noted behind them
pub cut_means : (slices : ℕ) (before : List Line) (closed : List (List Line)) (open_ : List Line)
    (noted : List Meaning) → AreWhole closed
    → is_whole [] open_ ≡ false
    → epochs_from slices before (closed ++ open_epoch open_) noted
    ≡ meant_epochs slices before closed
    ++ own_epoch (meant_from slices (before ++ flat_map (λ (epoch : List Line). epoch) closed) open_ ++ noted)
cut_means slices before [] open_ noted whole unfinished =
    open_last slices before open_ noted unfinished
    ∙ ap (λ lines. own_epoch (meant_from slices lines open_ ++ noted)) (sym (append-nil before))
cut_means slices before (epoch ∷ closed) open_ noted whole unfinished =
    behind_whole slices before epoch (closed ++ open_epoch open_) noted
    (All-head (λ e. is_whole [] e ≡ true) epoch closed whole)
    ∙ ap (λ rest. meant_from slices before epoch ∷ rest)
    (cut_means slices (before ++ epoch) closed open_ noted
    (All-tail (λ e. is_whole [] e ≡ true) epoch closed whole) unfinished
    ∙ ap (λ lines. meant_epochs slices (before ++ epoch) closed ++ own_epoch (meant_from slices lines open_ ++ noted))
    (append_assoc before epoch (flat_map (λ (e : List Line). e) closed)))

-- what lines mean, some behind others
pub meant_from-append : (slices : ℕ) (before lines more : List Line)
    → meant_from slices before (lines ++ more) ≡ meant_from slices before lines
    ++ meant_from slices (before ++ lines) more
meant_from-append slices before [] more = ap (λ done. meant_from slices done more) (sym (append-nil before))
meant_from-append slices before (line ∷ lines) more =
    ap (λ rest. settled_by slices before (meaning slices before line) ∷ rest)
    (meant_from-append slices (before ++ line ∷ []) lines more
    ∙ ap (λ done. meant_from slices (before ++ line ∷ []) lines ++ meant_from slices done more)
    (append_assoc before (line ∷ []) lines))
