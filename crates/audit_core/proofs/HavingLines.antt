-- Each epoch of a trace has a line.
use Rattle.std.proofs.Common.{◌≡◌, ℕ, suc, ◌<◌, Bool, true, false, List, [], ◌∷◌, ◌++◌, length, cond, refl, ap, arith, length-append, All}
use Rattle.std.proofs.lemmas.List.Elements.{All-nil, All-cons, All-head, All-tail}
use Rattle.trace_lines.specs.Epochs.{ends_epoch, epochs_behind, epochs_of}
use Rattle.trace_lines.specs.Line.{Line}
use Rattle.demux.specs.Trace.{Meaning}
use Rattle.lawful_run.specs.Trace.{meant_from, is_whole, own_epoch, with_noted, epochs_from, stop_noted}
use Rattle.audit_core.specs.Lawful.{HaveLines, TracesHaveLines}

abbrev HasLine : List Line → Type 0
HasLine epoch = 0 < length epoch

abbrev HasMeaning : List Meaning → Type 0
HasMeaning lines = 0 < length lines

either_way : {X : Type 0} (P : X → Type 0) (test : Bool) (x y : X) → P x → P y → P (cond test x y)
either_way P true x y here there = here
either_way P false x y here there = there

one_more : (before : List Line) (line : Line) → HasLine (before ++ line ∷ [])
one_more before line = omega (arith, length-append before (line ∷ []))

behind_have : (before lines : List Line) → All HasLine (epochs_behind before lines)
behind_have [] [] = All-nil HasLine
behind_have (first ∷ before) [] = All-cons HasLine (first ∷ before) [] (omega arith) (All-nil HasLine)
behind_have [] (line ∷ lines) =
    either_way (All HasLine) (ends_epoch [] line) (([] ++ line ∷ []) ∷ epochs_behind [] lines)
    (epochs_behind ([] ++ line ∷ []) lines)
    (All-cons HasLine ([] ++ line ∷ []) (epochs_behind [] lines) (one_more [] line) (behind_have [] lines))
    (behind_have ([] ++ line ∷ []) lines)
behind_have (first ∷ before) (line ∷ lines) =
    either_way (All HasLine) (ends_epoch (first ∷ before) line)
    (((first ∷ before) ++ line ∷ []) ∷ epochs_behind [] lines) (epochs_behind ((first ∷ before) ++ line ∷ []) lines)
    (All-cons HasLine ((first ∷ before) ++ line ∷ []) (epochs_behind [] lines) (one_more (first ∷ before) line)
    (behind_have [] lines))
    (behind_have ((first ∷ before) ++ line ∷ []) lines)

meant_length : (slices : ℕ) (before lines : List Line) → length (meant_from slices before lines) ≡ length lines
meant_length slices before [] = refl
meant_length slices before (line ∷ lines) = ap suc (meant_length slices (before ++ line ∷ []) lines)

meant_has : (slices : ℕ) (before lines : List Line) → HasLine lines → HasMeaning (meant_from slices before lines)
meant_has slices before lines has = omega (arith, has, meant_length slices before lines)

own_has : (noted : List Meaning) → All HasMeaning (own_epoch noted)
own_has [] = All-nil HasMeaning
own_has (first ∷ noted) = All-cons HasMeaning (first ∷ noted) [] (omega arith) (All-nil HasMeaning)

last_has : (whole : Bool) (made noted : List Meaning) → HasMeaning made
    → All HasMeaning (with_noted whole made noted)
last_has true made noted has = All-cons HasMeaning made (own_epoch noted) has (own_has noted)
last_has false made noted has =
    All-cons HasMeaning (made ++ noted) [] (omega (arith, has, length-append made noted)) (All-nil HasMeaning)

from_have : (slices : ℕ) (before : List Line) (epochs : List (List Line)) (noted : List Meaning)
    → All HasLine epochs → HaveLines (epochs_from slices before epochs noted)
from_have slices before [] noted have = own_has noted
from_have slices before (last ∷ []) noted have =
    last_has (is_whole [] last) (meant_from slices before last) noted
    (meant_has slices before last (All-head HasLine last [] have))
from_have slices before (epoch ∷ next ∷ epochs) noted have =
    All-cons HasMeaning (meant_from slices before epoch)
    (epochs_from slices (before ++ epoch) (next ∷ epochs) noted)
    (meant_has slices before epoch (All-head HasLine epoch (next ∷ epochs) have))
    (from_have slices (before ++ epoch) (next ∷ epochs) noted (All-tail HasLine epoch (next ∷ epochs) have))

pub traces_have_lines : TracesHaveLines
traces_have_lines slices input =
    from_have slices [] (epochs_of input.lines) (stop_noted input.stop) (behind_have [] input.lines)
