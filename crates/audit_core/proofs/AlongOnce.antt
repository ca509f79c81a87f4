-- The pieces of an input are all lawful, or one of them isn't, and not both.
use Rattle.std.proofs.Common.{◌≡◌, ◌≢◌, ℕ, ◌+◌, ◌⊎◌, Bool, true, false, None, Some, List, [], ◌∷◌, ◌++◌, filter_map, length, refl, sym, ap, ◌∙◌, subst, inl, inr, append_assoc, append-nil}
use Rattle.pc_outside.specs.Texts.{Text}
use Rattle.trace_lines.specs.Epochs.{IsEpoch, NoneEnds, ends_epoch}
use Rattle.trace_lines.specs.Input.{Input, ended}
use Rattle.trace_lines.specs.Line.{Line}
use Rattle.demux.specs.Trace.{Meaning}
use Rattle.report_lines.specs.declared.entry.Entry.{Entry}
use Rattle.report_lines.specs.declared.entry.Entry.TheVariants as entry
use Rattle.report_lines.specs.declared.entry.LineEntry.{LineEntry}
use Rattle.lawful_run.specs.Answers.{AnswersAll}
use Rattle.lawful_run.specs.Merging.{events_in}
use Rattle.lawful_run.specs.Outcomes as made_of
use Rattle.lawful_run.specs.Setup.{Setup}
use Rattle.audit_core.specs.Agreeing.{AreBySlot, slot_effected}
use Rattle.audit_core.specs.Along.{AreLawfulSoFar, Behind, HasTwoEpochs, IsLawfulNext, IsMisfit, IsOneEpoch, IsWholeEpoch, RefutesNext, SaysNo, SaysYes, behind_next, is_last, none_behind, piece_of, pieces_of, said_in}
use Rattle.audit_core.specs.Along as along
use Rattle.audit_core.specs.Belonging.{effect_of, row_of}
use Rattle.audit_core.specs.Entries.{opens_told, slot_charged}
use Rattle.audit_core.specs.Matched.{UnansweredIn}
use Rattle.audit_core.specs.OfSlot.{AreAnswered}
use Rattle.audit_core.specs.Pieces.{BreaksFirst, BreaksIn, HoldsIn, IsLawfulPiece, Piece, answers_in, led_by, opens_asked, piece_entries, told_in}
use Rattle.audit_core.specs.Refuting.{NoEntryAt}
use Rattle.audit_core.specs.Said.{AreEntries, report_texts}
use Rattle.audit_core.specs.declared.sentence.Refutation.{Refutation}
use Rattle.audit_core.specs.declared.sentence.Sentence.{Sentence}
use Rattle.audit_core.specs.declared.sentence.Sentence.TheVariants as of
use Rattle.audit_core.specs.declared.telling.Break.{Break}
use Rattle.audit_core.proofs.BreakLemmas.{counts_broken, gateway_broken, numbers_broken, waits_broken}
use Rattle.audit_core.proofs.BrokenLemmas.{not_left, rest_answers}
use Rattle.audit_core.proofs.ChargeLemmas.{item_broken, open_broken}
use Rattle.audit_core.proofs.Differing.{differ}
use Rattle.audit_core.proofs.HeardLemmas.{has_none}
use Rattle.audit_core.proofs.LineKinds.{are_answered}
use Rattle.audit_core.proofs.MadeLemmas.{stands_by_slot}
use Rattle.audit_core.proofs.OwnLemmas.{effects_own, rows_own}
use Rattle.audit_core.proofs.SaidLemmas.{no_other, one_list}

-- ---- a sentence of a piece

unanswered_broken : (n : ℕ) (made : List Meaning) (answers : List LineEntry) (found : Break)
    → UnansweredIn n made answers found → AnswersAll n made answers → ⊥
unanswered_broken n made answers found is all =
    not_left (n + length is.answered) is.left is.rest is.stops is.more
    (rest_answers n is.answered is.left is.answers is.rest is.each
    (subst (AnswersAll n (is.answered ++ is.left)) is.in_order
    (subst (λ lines. AnswersAll n lines answers) is.lines all)))

module _ (own : Piece) (found : Break) (lawful : IsLawfulPiece own) where
  answered : AreAnswered (own.lines + 1) (told_in own)
  answered = are_answered (own.lines + 1) own.made (answers_in own) (lawful of.Answers)

  effects_by : AreBySlot slot_effected own.slots (led_by own).effects
  effects_by =
      stands_by_slot slot_effected (λ s. made_of.effects s (own.before s) (events_in (own.before s) (told_in own) s))
      (λ s. effects_own s (own.before s) (events_in (own.before s) (told_in own) s)) own.slots (led_by own).effects refl

  rows_by : AreBySlot slot_charged own.slots (led_by own).rows
  rows_by =
      stands_by_slot slot_charged (λ s. made_of.rows s (own.before s) (events_in (own.before s) (told_in own) s))
      (λ s. rows_own s (own.before s) (events_in (own.before s) (told_in own) s)) own.slots (led_by own).rows refl

  sentence_broken : (s : Sentence) → BreaksIn own s found → HoldsIn own s → ⊥
  sentence_broken of.Entries is holds = is
  sentence_broken of.Answers is holds = unanswered_broken (own.lines + 1) own.made (answers_in own) found is holds
  sentence_broken of.Outside is holds = let clash : None ≡ Some is.0 = sym holds ∙ is.1 in cc
  sentence_broken of.Numbers is holds =
      numbers_broken (own.lines + 1) own.before (told_in own) found answered is holds
  sentence_broken of.Counts is holds = counts_broken own.before (told_in own) found is holds
  sentence_broken of.Gateway is holds =
      gateway_broken (own.lines + 1) own.before (told_in own) found answered is holds
  sentence_broken of.Effects is holds =
      item_broken slot_effected entry.Effect own.slots (filter_map effect_of own.entries) (led_by own).effects found
      effects_by is holds
  sentence_broken of.Rows is holds =
      item_broken slot_charged entry.Charge own.slots (filter_map row_of own.entries) (led_by own).rows found
      rows_by is holds
  sentence_broken of.Opens is holds =
      open_broken (opens_told own.entries) (opens_asked own) found is holds.each holds.as_many
  sentence_broken of.Waits is holds = waits_broken own.setup own.before (told_in own) found is holds
  sentence_broken of.Order is holds = differ own.entries (piece_entries own) is.stands is.asked is.first holds

breaks_clash : (own : Piece) (found : Refutation) → BreaksFirst own found → IsLawfulPiece own → ⊥
breaks_clash own found is lawful =
    sentence_broken own found.place lawful found.sentence is.breaks (lawful found.sentence)

-- ---- the lines of an epoch

none_prefix : (start prefix later : List Line) → NoneEnds start (prefix ++ later) → NoneEnds start prefix
none_prefix start [] later none = tt
none_prefix start (line ∷ prefix) later none = (none.0, none_prefix (start ++ line ∷ []) prefix later none.1)

last_open : (start prefix : List Line) (line : Line) (later : List Line) → NoneEnds start (prefix ++ line ∷ later)
    → ends_epoch (start ++ prefix) line ≡ false
last_open start [] line later none = ap (λ lines. ends_epoch lines line) (append-nil start) ∙ none.0
last_open start (first ∷ prefix) line later none =
    ap (λ lines. ends_epoch lines line) (sym (append_assoc start (first ∷ []) prefix))
    ∙ last_open (start ++ first ∷ []) prefix line later none.1

open_clash : (lines : List Line) → IsEpoch lines → NoneEnds [] lines → ⊥
open_clash lines is none =
    let open_ : ends_epoch is.0 is.1 ≡ false = last_open [] is.0 is.1 [] (subst (NoneEnds []) is.2 none) in
    let clash : true ≡ false = sym is.4 ∙ open_ in cc

none_there : (first : List Line) (x : Line) (xs : List Line) → first ++ x ∷ xs ≡ [] → ⊥
none_there [] x xs is = cc
none_there (y ∷ first) x xs is = cc

-- lines with more behind them stand before the last line
prefix_of : (first : List Line) (x : Line) (xs prefix : List Line) (last : Line)
    → first ++ x ∷ xs ≡ prefix ++ last ∷ [] → (rest : List Line) × (prefix ≡ first ++ rest)
prefix_of [] x xs prefix last is = (prefix, refl)
prefix_of (y ∷ first) x xs [] last is =
    let rest : first ++ x ∷ xs ≡ [] = cc in absurd (none_there first x xs rest)
prefix_of (y ∷ first) x xs (z ∷ prefix) last is =
    let rest : first ++ x ∷ xs ≡ prefix ++ last ∷ [] = cc in
    let same : z ≡ y = cc in
    let more = prefix_of first x xs prefix last rest in
    (more.0, ap (λ lines. z ∷ lines) more.1 ∙ ap (λ line. line ∷ (first ++ more.0)) same)

whole_clash : (lines first later : List Line) → lines ≡ first ++ later → later ≢ [] → IsEpoch first → IsEpoch lines → ⊥
whole_clash lines first [] parts some whole all = absurd (some refl)
whole_clash lines first (x ∷ xs) parts some whole all =
    let within = prefix_of first x xs all.0 all.1 (sym parts ∙ all.2) in
    open_clash first whole (none_prefix [] first within.0 (subst (NoneEnds []) within.1 all.3))

two_clash : (known : Behind) (said : Input) (told : Break) → HasTwoEpochs known said told
    → IsWholeEpoch said ⊎ NoneEnds [] said.lines → ⊥
two_clash known said told two (inl whole) = by two.more
  where
    by : (two.later ≢ []) ⊎ (said.stop ≢ ended) → ⊥
    by (inl some) = whole_clash said.lines two.first two.later two.parts some two.whole whole.0
    by (inr stops) = stops whole.1
two_clash known said told two (inr open_) =
    open_clash two.first two.whole (none_prefix [] two.first two.later (subst (NoneEnds []) two.parts open_))

misfit_clash : (last : Bool) (known : Behind) (said : Input) (told : Break) → IsOneEpoch last said
    → IsMisfit last known said told → ⊥
misfit_clash false known said told one (inl two) = two_clash known said told two (inl one)
misfit_clash false known said told one (inr early) = open_clash said.lines one.0 early.open_
misfit_clash true known said told one two = two_clash known said told two one

-- ---- pieces

none_clash : (piece : List Text) (entries : List Entry) (told : Break) → AreEntries (report_texts piece) entries
    → NoEntryAt piece told → ⊥
none_clash piece entries told are none =
    no_other (report_texts piece) entries are (has_none (report_texts piece) none.entries none.ends)

next_clash : (setup : Setup) (known : Behind) (last : Bool) (piece : List Text) (entries : List Entry) (k : ℕ)
    (told : Break) → IsLawfulNext setup known last piece entries → RefutesNext setup known last piece k told → ⊥
next_clash setup known last piece entries k told lawful (inl none) =
    none_clash piece entries told lawful.are none.1
next_clash setup known last piece entries k told lawful (inr (inl misfit)) =
    misfit_clash last known (said_in known piece) told lawful.one misfit.misfit
next_clash setup known last piece entries k told lawful (inr (inr breaks)) =
    breaks_clash (piece_of setup known last piece entries) breaks.found
    (subst (λ its. BreaksFirst (piece_of setup known last piece its) breaks.found)
    (one_list (report_texts piece) breaks.entries entries breaks.are lawful.are) breaks.breaks) lawful.holds

-- from here on all pieces are lawful · one of them isn't, and those before it are
abbrev AllLawful : Setup → Behind → List (List Text) → Type 0
AllLawful setup known [] = ⊥
AllLawful setup known (piece ∷ []) = (entries : List Entry) × IsLawfulNext setup known true piece entries
AllLawful setup known (piece ∷ next ∷ later) =
    (entries : List Entry) × IsLawfulNext setup known false piece entries
    × AllLawful setup (behind_next setup known false piece entries) (next ∷ later)

abbrev Refuted : Setup → Behind → Bool → List Text → Type 0
Refuted setup known last piece = (k : ℕ) × (told : Break) × RefutesNext setup known last piece k told

abbrev OneBroken : Setup → Behind → List (List Text) → Type 0
OneBroken setup known [] = ⊥
OneBroken setup known (piece ∷ []) = Refuted setup known true piece
OneBroken setup known (piece ∷ next ∷ later) =
    Refuted setup known false piece
    ⊎ ((entries : List Entry) × IsLawfulNext setup known false piece entries
    × OneBroken setup (behind_next setup known false piece entries) (next ∷ later))

not_both : (setup : Setup) (known : Behind) (pieces : List (List Text)) → AllLawful setup known pieces
    → OneBroken setup known pieces → ⊥
not_both setup known [] all one = all
not_both setup known (piece ∷ []) all one =
    next_clash setup known true piece all.0 one.0 one.1 all.1 one.2
not_both setup known (piece ∷ next ∷ later) all (inl one) =
    next_clash setup known false piece all.0 one.0 one.1 all.1 one.2
not_both setup known (piece ∷ next ∷ later) all (inr one) =
    not_both setup (behind_next setup known false piece all.0) (next ∷ later) all.2
    (subst (λ its. OneBroken setup (behind_next setup known false piece its) (next ∷ later))
    (one_list (report_texts piece) one.0 all.0 one.1.are all.1.are) one.2)

all_from : (setup : Setup) (prefix : List (List Text)) (known : Behind) (said : List ℕ) (next : List Text)
    (later : List (List Text)) → AreLawfulSoFar setup prefix known said → AllLawful setup known (next ∷ later)
    → AllLawful setup none_behind (prefix ++ next ∷ later)
all_from setup prefix known said next later along.begins all = all
all_from setup prefix known said next later (along.goes_on before held text piece entries so lawful) all =
    subst (AllLawful setup none_behind) (sym (append_assoc before (piece ∷ []) (next ∷ later)))
    (all_from setup before held text piece (next ∷ later) so (entries, lawful, all))

one_from : (setup : Setup) (prefix : List (List Text)) (known : Behind) (said : List ℕ) (next : List Text)
    (later : List (List Text)) → AreLawfulSoFar setup prefix known said → OneBroken setup known (next ∷ later)
    → OneBroken setup none_behind (prefix ++ next ∷ later)
one_from setup prefix known said next later along.begins one = one
one_from setup prefix known said next later (along.goes_on before held text piece entries so lawful) one =
    subst (OneBroken setup none_behind) (sym (append_assoc before (piece ∷ []) (next ∷ later)))
    (one_from setup before held text piece (next ∷ later) so (inr (entries, lawful, one)))

refuted_here : (setup : Setup) (known : Behind) (piece : List Text) (later : List (List Text))
    → Refuted setup known (is_last later) piece → OneBroken setup known (piece ∷ later)
refuted_here setup known piece [] refuted = refuted
refuted_here setup known piece (next ∷ later) refuted = inl refuted

pub yes_or_no : (why : Bool) (setup : Setup) (texts : List Text) (text other : List ℕ) → SaysYes setup texts text
    → SaysNo why setup texts other → ⊥
yes_or_no why setup texts text other all one =
    not_both setup none_behind (pieces_of texts)
    (subst (AllLawful setup none_behind) (sym all.parts)
    (all_from setup all.prefix all.known all.said all.piece [] all.so (all.entries, all.lawful)))
    (subst (OneBroken setup none_behind) (sym one.parts)
    (one_from setup one.prefix one.known one.said one.piece one.later one.so
    (refuted_here setup one.known one.piece one.later (one.k, one.told, one.refuted))))
