-- What the lines of an input mean is in its ranges, epoch by epoch.
use Rattle.std.proofs.Common.{◌≡◌, ℕ, ◌+◌, ◌≤◌, ◌==◌, Bool, true, false, if◌then◌else◌, List, [], ◌∷◌, ◌++◌, length, codes, All, refl, sym, ap, subst, arith, length-append}
use Rattle.std.specs.List.{AllByRecursion, flat_map}
use Rattle.std.proofs.lemmas.List.Elements.{All-from_recursion, recursion_from_All}
use Rattle.trace_lines.specs.Epochs.{epochs_of}
use Rattle.trace_lines.specs.Input.{Input, Stop, bad, big, ended, input_of, long}
use Rattle.trace_lines.specs.Line.{IsLine, Line}
use Rattle.trace_lines.specs.Word.{word_of}
use Rattle.trace_lines.specs.declared.bad.LineBad.{LineBad}
use Rattle.trace_lines.specs.declared.bad.LineBad.TheVariants as why_bad
use Rattle.trace_lines.proofs.EpochLemmas.{are_epochs}
use Rattle.trace_lines.proofs.InputRanges.{AreLines, of_octets}
use Rattle.demux.specs.Ranges.{IsInRange}
use Rattle.demux.specs.Trace.{Meaning, command, destination_after, meaning, move, note, packet}
use Rattle.demux.proofs.NotesPrint.{Prints, behind_space, note_of, word_prints}
use Rattle.demux.proofs.RangeLemmas.{meaning_in}
use Rattle.demux.proofs.Small.{each_append}
use Rattle.lawful_run.specs.Trace.{epochs_from, epochs_told, is_whole, meant_from, own_epoch, settled_by, stop_noted, with_noted}

abbrev pub AllIn : List Meaning → Type 0
AllIn made = AllByRecursion IsInRange made

abbrev EachIn : List (List Meaning) → Type 0
EachIn epochs = AllByRecursion AllIn epochs

-- lines
by_place : (stays : Bool) (slot slice : ℕ) (text : List ℕ) → IsInRange (move slot slice text)
    → IsInRange (if stays then note text else move slot slice text)
by_place true slot slice text is = is.1
by_place false slot slice text is = is

settled_in : (slices : ℕ) (before : List Line) (now : Meaning) → IsInRange now → IsInRange (settled_by slices before now)
settled_in slices before (command slot c) is = is
settled_in slices before (packet slot p) is = is
settled_in slices before (move slot slice text) is =
    by_place (slice == destination_after slices slot before) slot slice text is
settled_in slices before (note text) is = is

meant_in : (slices : ℕ) (before lines : List Line) → AreLines lines → AllIn (meant_from slices before lines)
meant_in slices before [] are = tt
meant_in slices before (line ∷ lines) are = (
  settled_in slices before (meaning slices before line) (meaning_in slices before line are.0),
  meant_in slices (before ++ line ∷ []) lines are.1,
)

-- the line that isn't one
word_is : (why : LineBad) → Prints (word_of why)
word_is why_bad.Field = word_prints (codes "field") refl
word_is why_bad.Number = word_prints (codes "number") refl
word_is why_bad.Kind = word_prints (codes "kind") refl
word_is why_bad.Hex = word_prints (codes "hex") refl
word_is why_bad.MomentBack = word_prints (codes "moment") refl
word_is why_bad.NoMemory = word_prints (codes "memory") refl

stop_in : (stop : Stop) → AllIn (stop_noted stop)
stop_in (bad n why) =
    let text : List ℕ = codes "line" ++ 32 ∷ word_of why in
    let prints : Prints text = behind_space (codes "line") (word_of why) (word_prints (codes "line") refl) (word_is why) in
    (note_of text (omega arith) prints, tt)
stop_in (long n) = tt
stop_in big = tt
stop_in ended = tt

-- epochs
own_in : (noted : List Meaning) → AllIn noted → EachIn (own_epoch noted)
own_in [] are = tt
own_in (now ∷ others) are = (are, tt)

with_in : (whole : Bool) (made noted : List Meaning) → AllIn made → AllIn noted → EachIn (with_noted whole made noted)
with_in true made noted first second = (first, own_in noted second)
with_in false made noted first second = (each_append IsInRange made noted first second, tt)

epochs_in : (slices : ℕ) (before : List Line) (epochs : List (List Line)) (noted : List Meaning)
    → AllByRecursion AreLines epochs → AllIn noted → EachIn (epochs_from slices before epochs noted)
epochs_in slices before [] noted are last = own_in noted last
epochs_in slices before (epoch ∷ []) noted are last =
    with_in (is_whole [] epoch) (meant_from slices before epoch) noted (meant_in slices before epoch are.0) last
epochs_in slices before (epoch ∷ next ∷ epochs) noted are last =
    (meant_in slices before epoch are.0, epochs_in slices (before ++ epoch) (next ∷ epochs) noted are.1 last)

prefix_in : (one other : List Line) → AreLines (one ++ other) → AreLines one
prefix_in [] other are = tt
prefix_in (line ∷ one) other are = (are.0, prefix_in one other are.1)

rest_in : (one other : List Line) → AreLines (one ++ other) → AreLines other
rest_in [] other are = are
rest_in (line ∷ one) other are = rest_in one other are.1

cut_in : (epochs : List (List Line)) → AreLines (flat_map (λ epoch. epoch) epochs) → AllByRecursion AreLines epochs
cut_in [] are = tt
cut_in (epoch ∷ epochs) are =
    let rest : List Line = flat_map (λ (e : List Line). e) epochs in
    (prefix_in epoch rest are, cut_in epochs (rest_in epoch rest are))

as_all : (epochs : List (List Meaning)) → EachIn epochs → AllByRecursion (All IsInRange) epochs
as_all [] are = tt
as_all (made ∷ epochs) are = (All-from_recursion IsInRange made are.0, as_all epochs are.1)

pub told_in_range : (slices : ℕ) (input : Input) → All IsLine input.lines → All (All IsInRange) (epochs_told slices input)
told_in_range slices input are =
    let lines : AreLines input.lines = recursion_from_All IsLine input.lines are in
    let epochs : AllByRecursion AreLines (epochs_of input.lines) =
    cut_in (epochs_of input.lines) (subst AreLines (sym (are_epochs input.lines).whole) lines) in
    All-from_recursion (All IsInRange) (epochs_told slices input)
    (as_all (epochs_told slices input)
    (epochs_in slices [] (epochs_of input.lines) (stop_noted input.stop) epochs (stop_in input.stop)))

pub octets_in_range : (slices : ℕ) (octets : List ℕ) → All (All IsInRange) (epochs_told slices (input_of octets))
octets_in_range slices octets = told_in_range slices (input_of octets) (of_octets octets)

-- how many they are
abbrev pub all_told : List (List Meaning) → List Meaning
all_told epochs = flat_map (λ (lines : List Meaning). lines) epochs

length-meant : (slices : ℕ) (before lines : List Line) → length (meant_from slices before lines) ≡ length lines
length-meant slices before [] = refl
length-meant slices before (line ∷ lines) = omega (arith, length-meant slices (before ++ line ∷ []) lines)

own_many : (noted : List Meaning) → length (all_told (own_epoch noted)) ≡ length noted
own_many [] = refl
own_many (now ∷ others) = omega (arith, length-append (now ∷ others) [])

with_many : (whole : Bool) (made noted : List Meaning)
    → length (all_told (with_noted whole made noted)) ≡ length made + length noted
with_many true made noted = omega (arith, length-append made (all_told (own_epoch noted)), own_many noted)
with_many false made noted = omega (arith, length-append (made ++ noted) [], length-append made noted)

epochs_many : (slices : ℕ) (before : List Line) (epochs : List (List Line)) (noted : List Meaning)
    → length (all_told (epochs_from slices before epochs noted))
    ≡ length (flat_map (λ (epoch : List Line). epoch) epochs) + length noted
epochs_many slices before [] noted = omega (arith, own_many noted)
epochs_many slices before (epoch ∷ []) noted =
    omega (
      arith,
      with_many (is_whole [] epoch) (meant_from slices before epoch) noted,
      length-meant slices before epoch,
      length-append epoch [],
    )
epochs_many slices before (epoch ∷ next ∷ epochs) noted =
    omega (
      arith,
      length-append (meant_from slices before epoch)
          (all_told (epochs_from slices (before ++ epoch) (next ∷ epochs) noted)),
      length-meant slices before epoch,
      epochs_many slices (before ++ epoch) (next ∷ epochs) noted,
      length-append epoch (flat_map (λ (e : List Line). e) (next ∷ epochs)),
    )

stop_few : (stop : Stop) → length (stop_noted stop) ≤ 1
stop_few (bad n why) = omega arith
stop_few (long n) = omega arith
stop_few big = omega arith
stop_few ended = omega arith

pub told_few : (slices : ℕ) (input : Input) → length (all_told (epochs_told slices input)) ≤ length input.lines + 1
told_few slices input =
    omega (
      arith,
      epochs_many slices [] (epochs_of input.lines) (stop_noted input.stop),
      ap (λ (lines : List Line). length lines) (are_epochs input.lines).whole,
      stop_few input.stop,
    )
