-- Where epochs end alike, the same is told of these slots epoch by epoch.
use Rattle.std.proofs.Common.{◌≡◌, ℕ, suc, ◌+◌, ◌||◌, Bool, true, false, if◌then◌else◌, nat_le, List, [], ◌∷◌, ◌++◌, length, map, refl, sym, ap, subst, ◌∙◌, arith, append-nil, length-append}
use Rattle.trace_lines.specs.Epochs.{ends_epoch, epochs_behind, epochs_of, is_fence}
use Rattle.trace_lines.specs.Input.{Input}
use Rattle.trace_lines.specs.Line.{Line}
use Rattle.demux.specs.Trace.{Meaning}
use Rattle.lawful_run.specs.AnsweredRun.{answered_epoch, answered_from, behind_lines, brought, events_after}
use Rattle.lawful_run.specs.Merging.{Histories}
use Rattle.lawful_run.specs.Run.{no_events}
use Rattle.lawful_run.specs.Setup.{slices_of}
use Rattle.lawful_run.specs.Trace.{epochs_from, epochs_told, is_whole, meant_from, slots_of, stop_noted, with_noted}
use Rattle.lawful_run.proofs.CutLines.{length-meant_from}
use Rattle.report_laws.specs.Lines.{EndByCount, ends_by_count}
use Rattle.report_laws.specs.Neighbours.{NorInAnyEpoch}
use Rattle.report_laws.specs.Told.{epoch_of}
use Rattle.report_laws.proofs.Epochs.{flat}
use Rattle.report_laws.proofs.Inputs.{told_flat}
use Rattle.report_laws.proofs.LineLemmas.{all_alike}
use Rattle.report_laws.proofs.Meanings.{AllAlike, SameEvents, same_brought, same_entries, same_events}
use Rattle.report_laws.proofs.Same.{one_count, opens_same, same_effects, same_rows}

-- how long epochs are
abbrev pub lengths : {X : Type 0} → List (List X) → List ℕ
lengths epochs = map length epochs

-- which of lines are FENCEs
abbrev fences : List Line → List Bool
fences lines = map (λ (line : Line). is_fence line.kind) lines

-- lines that are cut alike
by_line : (before : List Line) (line : Line) (lines : List Line)
    → epochs_behind before (line ∷ lines)
    ≡ (if ends_epoch before line then (before ++ line ∷ []) ∷ epochs_behind [] lines
    else epochs_behind (before ++ line ∷ []) lines)
by_line [] line lines = refl
by_line (first ∷ before) line lines = refl

no_more : (before other : List Line) → length before ≡ length other
    → lengths (epochs_behind before []) ≡ lengths (epochs_behind other [])
no_more [] [] same = refl
no_more [] (o ∷ other) same = absurd (omega (arith, same))
no_more (b ∷ before) [] same = absurd (omega (arith, same))
no_more (b ∷ before) (o ∷ other) same = ap (λ n. n ∷ []) same

-- the first test of both, and the others
abbrev head_of : Bool → List Bool → Bool
head_of none [] = none
head_of none (test ∷ tests) = test

abbrev tail_of : List Bool → List Bool
tail_of [] = []
tail_of (test ∷ tests) = tests

one_more : (before other : List Line) (line next : Line) → length before ≡ length other
    → length (before ++ line ∷ []) ≡ length (other ++ next ∷ [])
one_more before other line next same =
    length-append before (line ∷ []) ∙ ap (λ n. n + 1) same ∙ sym (length-append other (next ∷ []))

-- one line of both, behind which the others are cut alike
next_line : (test : Bool) (before other : List Line) (line next : Line) (lines others : List Line)
    → length before ≡ length other
    → EndByCount (if test then [] else before ++ line ∷ []) lines
    → EndByCount (if test then [] else other ++ next ∷ []) others
    → ((b o : List Line) → length b ≡ length o → EndByCount b lines → EndByCount o others
    → lengths (epochs_behind b lines) ≡ lengths (epochs_behind o others))
    → lengths (if test then (before ++ line ∷ []) ∷ epochs_behind [] lines else epochs_behind (before ++ line ∷ []) lines)
    ≡ lengths (if test then (other ++ next ∷ []) ∷ epochs_behind [] others
    else epochs_behind (other ++ next ∷ []) others)
next_line true before other line next lines others same ends also go_on =
    λ i. one_more before other line next same i ∷ go_on [] [] refl ends also i
next_line false before other line next lines others same ends also go_on =
    go_on (before ++ line ∷ []) (other ++ next ∷ []) (one_more before other line next same) ends also

cut_alike : (lines others before other : List Line) → length before ≡ length other → fences lines ≡ fences others
    → EndByCount before lines → EndByCount other others
    → lengths (epochs_behind before lines) ≡ lengths (epochs_behind other others)
cut_alike [] [] before other same fence ends also = no_more before other same
cut_alike [] (next ∷ others) before other same fence ends also = absurd (omega (arith, ap length fence))
cut_alike (line ∷ lines) [] before other same fence ends also = absurd (omega (arith, ap length fence))
cut_alike (line ∷ lines) (next ∷ others) before other same fence ends also =
    let counts : ends_by_count before line ≡ ends_by_count other next =
    λ i. ap (head_of false) fence i || nat_le 65536 (same i + 1) in
    let test = ends_by_count other next in
    ap lengths (by_line before line lines)
    ∙ ap (λ t. lengths (if t then (before ++ line ∷ []) ∷ epochs_behind [] lines
    else epochs_behind (before ++ line ∷ []) lines)) (ends.0 ∙ counts)
    ∙ next_line test before other line next lines others same
    (subst (λ t. EndByCount (if t then [] else before ++ line ∷ []) lines) counts ends.1) also.1
    (λ b o equal ends also. cut_alike lines others b o equal (ap tail_of fence) ends also)
    ∙ ap (λ t. lengths (if t then (other ++ next ∷ []) ∷ epochs_behind [] others
    else epochs_behind (other ++ next ∷ []) others)) (sym also.0)
    ∙ ap lengths (sym (by_line other next others))

-- epochs are as long as their lines, where no bad line is noted
last_length : (whole : Bool) (made : List Meaning) → lengths (with_noted whole made []) ≡ length made ∷ []
last_length true made = refl
last_length false made = ap (λ m. length m ∷ []) (append-nil made)

epochs_length : (slices : ℕ) (before : List Line) (epochs : List (List Line))
    → lengths (epochs_from slices before epochs []) ≡ lengths epochs
epochs_length slices before [] = refl
epochs_length slices before (last ∷ []) =
    last_length (is_whole [] last) (meant_from slices before last)
    ∙ ap (λ n. n ∷ []) (length-meant_from slices before last)
epochs_length slices before (epoch ∷ next ∷ epochs) =
    λ i. length-meant_from slices before epoch i ∷ epochs_length slices (before ++ epoch) (next ∷ epochs) i

told_length : (slices : ℕ) (input : Input) → stop_noted input.stop ≡ []
    → lengths (epochs_told slices input) ≡ lengths (epochs_of input.lines)
told_length slices input good =
    ap (λ noted. lengths (epochs_from slices [] (epochs_of input.lines) noted)) good
    ∙ epochs_length slices [] (epochs_of input.lines)

-- then the lines of all epochs are those of the input
alone : (slices : ℕ) (input : Input) → stop_noted input.stop ≡ []
    → flat (epochs_told slices input) ≡ meant_from slices [] input.lines
alone slices input good =
    told_flat slices input ∙ ap (λ noted. meant_from slices [] input.lines ++ noted) good
    ∙ append-nil (meant_from slices [] input.lines)

-- epoch by epoch alike
abbrev AlikeByEpoch : (ℕ → Bool) → (epochs others : List (List Meaning)) → Type 0
AlikeByEpoch own [] [] = Unit {0}
AlikeByEpoch own [] (other ∷ others) = ⊥
AlikeByEpoch own (made ∷ epochs) [] = ⊥
AlikeByEpoch own (made ∷ epochs) (other ∷ others) = AllAlike own made other × AlikeByEpoch own epochs others

alike_parts : (own : ℕ → Bool) (made other more others : List Meaning) → length made ≡ length other
    → AllAlike own (made ++ more) (other ++ others) → AllAlike own made other × AllAlike own more others
alike_parts own [] [] more others same alike = (tt, alike)
alike_parts own [] (o ∷ other) more others same alike = absurd (omega (arith, same))
alike_parts own (m ∷ made) [] more others same alike = absurd (omega (arith, same))
alike_parts own (m ∷ made) (o ∷ other) more others same alike =
    let rest = alike_parts own made other more others (omega (arith, same)) alike.1 in
    ((alike.0, rest.0), rest.1)

abbrev first_count : ℕ → List ℕ → ℕ
first_count none [] = none
first_count none (n ∷ counts) = n

abbrev other_counts : List ℕ → List ℕ
other_counts [] = []
other_counts (n ∷ counts) = counts

by_epoch : (own : ℕ → Bool) (epochs others : List (List Meaning)) → lengths epochs ≡ lengths others
    → AllAlike own (flat epochs) (flat others) → AlikeByEpoch own epochs others
by_epoch own [] [] same alike = tt
by_epoch own [] (other ∷ others) same alike = absurd (omega (arith, ap length same))
by_epoch own (made ∷ epochs) [] same alike = absurd (omega (arith, ap length same))
by_epoch own (made ∷ epochs) (other ∷ others) same alike =
    let parts = alike_parts own made other (flat epochs) (flat others) (ap (first_count 0) same) alike in
    (parts.0, by_epoch own epochs others (ap other_counts same) parts.1)

alike_length : (own : ℕ → Bool) (made others : List Meaning) → AllAlike own made others → length made ≡ length others
alike_length own [] [] alike = refl
alike_length own [] (other ∷ others) alike = absurd alike
alike_length own (now ∷ made) [] alike = absurd alike
alike_length own (now ∷ made) (other ∷ others) alike = ap suc (alike_length own made others alike.1)

-- one epoch, and all of them
module _ (own : ℕ → Bool) (slots : ℕ) where
  epoch_same : (first : ℕ) (before other : Histories) (made others : List Meaning) → AllAlike own made others
      → SameEvents own before other
      → epoch_of own (answered_epoch slots first before made) ≡ epoch_of own (answered_epoch slots first other others)
  epoch_same first before other made others alike same =
      let brings : SameEvents own (λ s. brought s (before s) made) (λ s. brought s (other s) others) =
      λ s mine. ap (λ events. brought s events made) (same s mine)
      ∙ same_brought own s (other s) made others alike mine in
      let lines = same_entries own first before other made others alike same in
      let effects = same_effects own slots before other (λ s. brought s (before s) made)
      (λ s. brought s (other s) others) same brings in
      let rows = same_rows own slots before other (λ s. brought s (before s) made)
      (λ s. brought s (other s) others) same brings in
      λ i. record { lines = lines i; effects = effects i; rows = rows i }

  epochs_same : (first : ℕ) (before other : Histories) (epochs others : List (List Meaning))
      → AlikeByEpoch own epochs others → SameEvents own before other
      → map (epoch_of own) (answered_from slots first before epochs)
      ≡ map (epoch_of own) (answered_from slots first other others)
  epochs_same first before other [] [] alike same = refl
  epochs_same first before other [] (later ∷ others) alike same = absurd alike
  epochs_same first before other (made ∷ epochs) [] alike same = absurd alike
  epochs_same first before other (made ∷ epochs) (later ∷ others) alike same =
      let behind : SameEvents own (behind_lines before made) (behind_lines other later) =
      λ s mine. ap (λ events. events_after s events made) (same s mine)
      ∙ same_events own s (other s) made later alike.0 mine in
      let head = epoch_same first before other made later alike.0 same in
      let tail = epochs_same (first + length made) (behind_lines before made) (behind_lines other later) epochs others
      alike.1 behind
      ∙ ap (λ n. map (epoch_of own) (answered_from slots (first + n) (behind_lines other later) others))
      (alike_length own made later alike.0) in
      λ i. head i ∷ tail i

pub nor_in_any_epoch : NorInAnyEpoch
nor_in_any_epoch own setup input other alike ends =
    let slices = slices_of setup in
    let count : lengths (epochs_told slices input) ≡ lengths (epochs_told slices other) =
    told_length slices input ends.good
    ∙ cut_alike input.lines other.lines [] [] refl ends.fences ends.by_count ends.other_by_count
    ∙ sym (told_length slices other ends.other_good) in
    let meant : AllAlike own (flat (epochs_told slices input)) (flat (epochs_told slices other)) =
    subst (λ made. AllAlike own made (flat (epochs_told slices other)))
    (sym (alone slices input ends.good))
    (subst (AllAlike own (meant_from slices [] input.lines)) (sym (alone slices other ends.other_good))
    (all_alike own slices [] [] input.lines other.lines alike refl)) in
    let epochs = epochs_same own (slots_of input) 1 no_events no_events (epochs_told slices input)
    (epochs_told slices other)
    (by_epoch own (epochs_told slices input) (epochs_told slices other) count meant) (λ s mine. refl)
    ∙ ap (λ n. map (epoch_of own) (answered_from n 1 no_events (epochs_told slices other)))
    (one_count own setup input other alike) in
    let opens = opens_same own setup input other alike in
    λ i. record { epochs = epochs i; opens = opens i }
