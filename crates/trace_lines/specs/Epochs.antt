-- Epochs: runs of lines that are closed together. A line is as long as its text, its newline not counted.
use Rattle.std.specs.Prelude.{◌≡◌, ℕ, ◌+◌, ◌<◌, ◌||◌, ◌⊎◌, Bool, true, false, List, [], ◌∷◌}
use Rattle.std.specs.Prelude.{◌++◌, length, sum_by, nat_le, if◌then◌else◌}
use Rattle.trace_lines.specs.Kind.{LineKind}
use Rattle.trace_lines.specs.Kind as kind
use Rattle.std.specs.List.{flat_map}
use Rattle.trace_lines.specs.Line.{Line}
use Rattle.trace_lines.specs.Text.{line_text}

abbrev pub is_fence : LineKind → Bool
is_fence kind.Fence = true
is_fence _ = false

-- the octets of lines
abbrev pub octets_in : List Line → ℕ
octets_in lines = sum_by (λ line. length (line_text line)) lines

-- whether a line is the last of its epoch, behind the epoch's lines before it: a FENCE, the 65,536th line, or the
-- one with which the lines have 67,108,864 octets or more
abbrev pub ends_epoch : List Line → Line → Bool
ends_epoch before line =
    is_fence line.kind || nat_le 65536 (length before + 1)
    || nat_le 67108864 (octets_in before + length (line_text line))

-- the epochs of lines, where these lines stand before them in the first one
abbrev pub epochs_behind : List Line → List Line → List (List Line)
epochs_behind [] [] = []
epochs_behind (line ∷ before) [] = (line ∷ before) ∷ []
epochs_behind before (line ∷ lines) =
    if ends_epoch before line then (before ++ line ∷ []) ∷ epochs_behind [] lines
    else epochs_behind (before ++ line ∷ []) lines

abbrev pub epochs_of : List Line → List (List Line)
epochs_of lines = epochs_behind [] lines

-- none of the lines ends the epoch that begins with these before them
abbrev pub NoneEnds : List Line → List Line → Type 0
NoneEnds before [] = Unit {0}
NoneEnds before (line ∷ lines) = (ends_epoch before line ≡ false) × NoneEnds (before ++ line ∷ []) lines

-- a whole epoch: its last line ends it, and none before it does
abbrev pub IsEpoch : List Line → Type 0
IsEpoch epoch = (lines : List Line) × (last : Line) × (epoch ≡ lines ++ last ∷ []) × NoneEnds [] lines
    × (ends_epoch lines last ≡ true)

-- the last epoch may stop at the end of the lines before one ends it; an epoch isn't empty
abbrev pub AreCut : List (List Line) → Type 0
AreCut [] = Unit {0}
AreCut (epoch ∷ []) = (0 < length epoch) × (IsEpoch epoch ⊎ NoneEnds [] epoch)
AreCut (epoch ∷ next ∷ epochs) = IsEpoch epoch × AreCut (next ∷ epochs)

-- epochs of these lines: one behind another they are the lines, each cut just behind the line that ends it
pub record AreEpochs (lines : List Line) (epochs : List (List Line)) : Type 0 where
  pub whole : flat_map (λ epoch. epoch) epochs ≡ lines
  pub cut : AreCut epochs
