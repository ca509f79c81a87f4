-- The reports of parts in lockstep are the whole report.
use Rattle.std.proofs.Common.{◌≡◌, ℕ, suc, ◌+◌, ◌<◌, ◌≤◌, ◌==◌, List, [], ◌∷◌, ◌++◌, length, cond, refl, sym, ap, ◌∙◌, inl, inr, arith, append-nil, length-append}
use Rattle.std.proofs.lemmas.Bool.{cases_eq, eq-eqb, ne_eqb}
use Rattle.trace_lines.specs.Input.{Input}
use Rattle.trace_lines.specs.Line.{Line}
use Rattle.demux.specs.Trace.{Meaning}
use Rattle.demux.specs.Resolved.{book_after}
use Rattle.report_lines.specs.declared.entry.LineEntry.{LineEntry}
use Rattle.lawful_run.specs.AnsweredRun.{behind_line, behind_lines, entries_from}
use Rattle.lawful_run.specs.Merging.{Histories}
use Rattle.lawful_run.specs.Run.{no_events}
use Rattle.lawful_run.specs.Setup.{Setup, slices_of}
use Rattle.lawful_run.specs.Trace.{answered_report, epochs_told, meant_from, slots_of, stop_noted}
use Rattle.lawful_run.proofs.CutLines.{length-meant_from}
use Rattle.report_laws.specs.Parts.{AreFor, IsCutInto, IsPart, PartsTellAll, bad_noted, in_lockstep, is_of, next_of, others_of}
use Rattle.report_laws.specs.Told.{TellTheSame, in_one, only}
use Rattle.report_laws.proofs.Epochs.{lines_in_one}
use Rattle.report_laws.proofs.Inputs.{entries_told, noted_anywhere}
use Rattle.report_laws.proofs.LineLemmas.{alike_to_fewer}
use Rattle.report_laws.proofs.PartLemmas.{AllBelow, part_alike, parts_below, those, those_same}
use Rattle.report_laws.proofs.Same.{neighbours_change_nothing, only_own}

-- of lists that have the same at a part's places: the first, where it is the part's, and the others
module _ {X : Type 0} where
  first_at : (part : ℕ) (parts : List ℕ) (x : X) (xs told : List X)
      → those part (part ∷ parts) (x ∷ xs) ≡ those part (part ∷ parts) told → 0 < length told → next_of told ≡ x ∷ []
  first_at part parts x xs [] same some = absurd (omega (arith, some))
  first_at part parts x xs (y ∷ told) same some =
      sym (ap next_of (sym (mine (x ∷ those part parts xs) (those part parts xs)) ∙ same
      ∙ mine (y ∷ those part parts told) (those part parts told))) where
        mine : (a b : List X) → cond (part == part) a b ≡ a
        mine a b = ap (λ t. cond t a b) (eq-eqb part part refl)

  others_at : (part first : ℕ) (parts : List ℕ) (x : X) (xs told : List X)
      → those part (first ∷ parts) (x ∷ xs) ≡ those part (first ∷ parts) told → 0 < length told
      → those part parts xs ≡ those part parts (others_of told)
  others_at part first parts x xs [] same some = absurd (omega (arith, some))
  others_at part first parts x xs (y ∷ told) same some = elim (cases_eq first part) [
    | inl is ↦
        let mine : (a b : List X) → cond (first == part) a b ≡ a =
        λ a b. ap (λ t. cond t a b) (eq-eqb first part is) in
        ap others_of (sym (mine (x ∷ those part parts xs) (those part parts xs)) ∙ same
        ∙ mine (y ∷ those part parts told) (those part parts told))
    | inr apart ↦
        let other : (a b : List X) → cond (first == part) a b ≡ b =
        λ a b. ap (λ t. cond t a b) (ne_eqb first part apart) in
        sym (other (x ∷ those part parts xs) (those part parts xs)) ∙ same
        ∙ other (y ∷ those part parts told) (those part parts told)
  ]

  others_longer : (n : ℕ) (told : List X) → suc n ≤ length told → n ≤ length (others_of told)
  others_longer n [] long = absurd (omega (arith, long))
  others_longer n (x ∷ told) long = omega (arith, long)

  -- where each part has the same at its places, all have it in lockstep
  pub in_step : (count : ℕ) (parts : List ℕ) (whole : List X) (told : ℕ → List X) → length whole ≡ length parts
      → AllBelow count parts
      → ((part : ℕ) → part < count → length parts ≤ length (told part))
      → ((part : ℕ) → part < count → those part parts whole ≡ those part parts (told part))
      → whole ≡ in_lockstep parts told
  in_step count [] [] told counted below long same = refl
  in_step count [] (x ∷ whole) told counted below long same = absurd (omega (arith, counted))
  in_step count (part ∷ parts) [] told counted below long same = absurd (omega (arith, counted))
  in_step count (part ∷ parts) (x ∷ whole) told counted below long same =
      let some : (k : ℕ) → k < count → 0 < length (told k) = λ k in_. omega (arith, long k in_) in
      let now = first_at part parts x whole (told part) (same part below.0) (some part below.0) in
      let later = in_step count parts whole (λ k. others_of (told k)) (omega (arith, counted)) below.1
      (λ k in_. others_longer (length parts) (told k) (long k in_))
      (λ k in_. others_at k part parts x whole (told k) (same k in_) (some k in_)) in
      λ i. sym now i ++ later i

length-entries : (n : ℕ) (before : Histories) (made : List Meaning) → length (entries_from n before made) ≡ length made
length-entries n before [] = refl
length-entries n before (now ∷ made) = ap suc (length-entries (n + 1) (behind_line before now) made)

length-parts : (part_of : ℕ → ℕ) (count slices : ℕ) (book : List (List ℕ)) (lines : List Line) (parts : List ℕ)
    → AreFor part_of count slices book lines parts → length parts ≡ length lines
length-parts part_of count slices book [] [] meant = refl
length-parts part_of count slices book [] (part ∷ parts) meant = absurd meant
length-parts part_of count slices book (line ∷ lines) [] meant = absurd meant
length-parts part_of count slices book (line ∷ lines) (part ∷ parts) meant =
    ap suc (length-parts part_of count slices (book_after book line) lines parts meant.1)

length-part : (own : ℕ) (book : List (List ℕ)) (lines : List Line) (parts : List ℕ) (others : List Line)
    → IsPart own book lines parts others → length lines ≡ length others
length-part own book [] parts [] is = refl
length-part own book [] parts (other ∷ others) is = absurd is
length-part own book (line ∷ lines) [] others is = absurd is
length-part own book (line ∷ lines) (part ∷ parts) [] is = absurd is
length-part own book (line ∷ lines) (part ∷ parts) (other ∷ others) is =
    ap suc (length-part own (book_after book line) lines parts others is.1)

-- the entries of an input's lines, and the note on a bad one
module _ (setup : Setup) (input : Input) where
  abbrev pub made : List Meaning
  made = meant_from (slices_of setup) [] input.lines

  abbrev pub behind : List LineEntry
  behind = entries_from (1 + length made) (behind_lines no_events made) (stop_noted input.stop)

  pub whole_lines : (in_one (answered_report setup input)).lines ≡ entries_from 1 no_events made ++ behind
  whole_lines =
      lines_in_one (slots_of input) 1 no_events (epochs_told (slices_of setup) input)
      ∙ entries_told (slices_of setup) 1 no_events input

  pub noted_is : behind ≡ bad_noted input
  noted_is =
      noted_anywhere (1 + length made) (behind_lines no_events made) no_events input.stop
      ∙ ap (λ n. entries_from (1 + n) no_events (stop_noted input.stop))
      (length-meant_from (slices_of setup) [] input.lines)

module _ (part_of : ℕ → ℕ) (count : ℕ) (parts : List ℕ) (setup : Setup) (input : Input) (inputs : ℕ → Input)
    (cut : IsCutInto part_of count (slices_of setup) parts input inputs) where
  lockstep : (in_one (answered_report setup input)).lines
      ≡ in_lockstep parts (λ part. (in_one (answered_report setup (inputs part))).lines) ++ bad_noted input
  lockstep =
      let slices = slices_of setup in
      let entries = entries_from 1 no_events (made setup input) in
      let told : ℕ → List LineEntry =
      λ part. entries_from 1 no_events (made setup (inputs part)) ++ behind setup (inputs part) in
      let long : (part : ℕ) → part < count → length parts ≤ length (told part) =
      λ part among. omega (
        arith,
        length-append (entries_from 1 no_events (made setup (inputs part))) (behind setup (inputs part)),
        length-entries 1 no_events (made setup (inputs part)),
        length-meant_from slices [] (inputs part).lines,
        length-part part [] input.lines parts (inputs part).lines (cut.each part among),
        length-parts part_of count slices [] input.lines parts cut.meant,
      ) in
      let same : (part : ℕ) → part < count → those part parts entries ≡ those part parts (told part) =
      λ part among. ap (those part parts) (sym (append-nil entries))
      ∙ those_same part_of count slices part 1 [] [] no_events no_events input.lines parts (inputs part).lines []
      (behind setup (inputs part)) cut.meant (cut.each part among) refl (λ slot mine. refl) (λ slot mine. refl) in
      let steps = in_step count parts entries told
      (length-entries 1 no_events (made setup input) ∙ length-meant_from slices [] input.lines
      ∙ sym (length-parts part_of count slices [] input.lines parts cut.meant))
      (parts_below part_of count slices [] input.lines parts cut.meant) long same in
      whole_lines setup input
      ∙ (λ i. steps i ++ noted_is setup input i)
      ∙ ap (λ (lists : ℕ → List LineEntry). in_lockstep parts lists ++ bad_noted input)
      (λ i part. sym (whole_lines setup (inputs part)) i)

  -- what the part of a slot tells of it
  of_slot : (slot : ℕ) → TellTheSame (only slot) (answered_report setup input)
      (answered_report setup (inputs (part_of slot)))
  of_slot slot =
      let own = part_of slot in
      neighbours_change_nothing (only slot) setup input (inputs own)
      (alike_to_fewer (is_of part_of own) (only slot) (slices_of setup) [] input.lines (inputs own).lines
      (λ s is. only_own (is_of part_of own) slot s (eq-eqb own own refl) is)
      (part_alike part_of count (slices_of setup) own [] input.lines parts (inputs own).lines cut.meant
      (cut.each own (cut.within slot))))

pub parts_tell_all : PartsTellAll
parts_tell_all part_of count parts setup input inputs cut = record {
  lines = lockstep part_of count parts setup input inputs cut;
  each = λ slot. (of_slot part_of count parts setup input inputs cut slot).each slot (eq-eqb slot slot refl);
  opens = λ slot. (of_slot part_of count parts setup input inputs cut slot).opens;
}
