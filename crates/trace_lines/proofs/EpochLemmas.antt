-- Lines cut into epochs.
use Rattle.std.proofs.Common.{◌≡◌, ◌<◌, Bool, true, false, List, [], ◌∷◌, ◌++◌, length, refl, sym, ap, ◌∙◌, arith, inl, inr, append_assoc, append-nil, length-append, if◌then◌else◌}
use Rattle.std.specs.List.{flat_map}
use Rattle.trace_lines.specs.Line.{Line}
use Rattle.trace_lines.specs.Epochs.{ends_epoch, epochs_behind, epochs_of, NoneEnds, IsEpoch, AreCut, AreEpochs}

-- one line more that doesn't end the epoch
none_more : (start before : List Line) (line : Line) → NoneEnds start before → ends_epoch (start ++ before) line ≡ false
    → NoneEnds start (before ++ line ∷ [])
none_more start [] line none ends = (ap (λ lines. ends_epoch lines line) (sym (append-nil start)) ∙ ends, tt)
none_more start (first ∷ before) line none ends = (
  none.0,
  none_more (start ++ first ∷ []) before line none.1 (ap (λ lines. ends_epoch lines line)
      (append_assoc start (first ∷ []) before) ∙ ends),
)

cut_first : (epoch : List Line) (epochs : List (List Line)) → 0 < length epoch → IsEpoch epoch → AreCut epochs
    → AreCut (epoch ∷ epochs)
cut_first epoch [] some whole cut = (some, inl whole)
cut_first epoch (next ∷ epochs) some whole cut = (whole, cut)

abbrev joined : List (List Line) → List Line
joined epochs = flat_map (λ epoch. epoch) epochs

record Cut (before lines : List Line) (epochs : List (List Line)) : Type 0 where
  whole : joined epochs ≡ before ++ lines
  cut : AreCut epochs

some_more : (before : List Line) (line : Line) → 0 < length (before ++ line ∷ [])
some_more before line = omega (arith, length-append before (line ∷ []))

next_line : (before : List Line) (line : Line) (lines : List Line) (b : Bool) → ends_epoch before line ≡ b
    → NoneEnds [] before
    → (NoneEnds [] (before ++ line ∷ []) → Cut (before ++ line ∷ []) lines (epochs_behind (before ++ line ∷ []) lines))
    → Cut [] lines (epochs_behind [] lines)
    → Cut before (line ∷ lines) (if b then (before ++ line ∷ []) ∷ epochs_behind [] lines
    else epochs_behind (before ++ line ∷ []) lines)
next_line before line lines true ends none goes_on begins = record {
  whole = ap (λ rest. (before ++ line ∷ []) ++ rest) begins.whole ∙ append_assoc before (line ∷ []) lines;
  cut = cut_first (before ++ line ∷ []) (epochs_behind [] lines) (some_more before line) (
    before,
    line,
    refl,
    none,
    ends,
  ) begins.cut;
}
next_line before line lines false ends none goes_on begins =
    let rest = goes_on (none_more [] before line none ends) in
    record { whole = rest.whole ∙ append_assoc before (line ∷ []) lines; cut = rest.cut }

are_cut : (before lines : List Line) → NoneEnds [] before → Cut before lines (epochs_behind before lines)
are_cut [] [] none = record { whole = refl; cut = tt }
are_cut (line ∷ before) [] none = record { whole = refl; cut = (omega arith, inr none) }
are_cut [] (line ∷ lines) none =
    next_line [] line lines (ends_epoch [] line) refl none (λ still. are_cut (line ∷ []) lines still)
    (are_cut [] lines tt)
are_cut (first ∷ before) (line ∷ lines) none =
    next_line (first ∷ before) line lines (ends_epoch (first ∷ before) line) refl none
    (λ still. are_cut (first ∷ (before ++ line ∷ [])) lines still) (are_cut [] lines tt)

pub are_epochs : (lines : List Line) → AreEpochs lines (epochs_of lines)
are_epochs lines = let cut = are_cut [] lines tt in record { whole = cut.whole; cut = cut.cut }
