-- Lawful pieces, joined, are a lawful run.
use Rattle.std.proofs.Common.{◌≡◌, ℕ, suc, ◌+◌, ◌-◌, ◌<◌, ◌≤◌, ◌⊎◌, true, false, Bool, if◌then◌else◌, Result, Ok, Err, List, [], ◌∷◌, ◌++◌, bytes_eq, length, map, refl, sym, ap, subst, ◌∙◌, inl, inr, arith, append_assoc, append-nil, length-append}
use Rattle.std.specs.List.{All, flat_map}
use Rattle.std.proofs.lemmas.Grind.{flat_map-append}
use Rattle.std.proofs.lemmas.List.{map-append}
use Rattle.std.proofs.lemmas.List.Elements.{All-append, All-cons, All-head, All-nil, All-tail}
use Rattle.pc_outside.specs.Texts.{Text}
use Rattle.trace_lines.specs.Epochs.{IsEpoch, NoneEnds, ends_epoch}
use Rattle.trace_lines.specs.Input.{Input, Stop, after_lines, bad, big, ended, line_then, long}
use Rattle.trace_lines.specs.Line.{Line}
use Rattle.trace_lines.specs.Meaning.{line_meaning}
use Rattle.trace_lines.specs.declared.bad.LineBad.{LineBad}
use Rattle.demux.specs.Trace.{Meaning, book_of}
use Rattle.report_lines.specs.Ranges.{IsEntry}
use Rattle.report_lines.specs.Text.{entry_text}
use Rattle.report_lines.specs.declared.entry.ChargeEntry.{ChargeEntry}
use Rattle.report_lines.specs.declared.entry.Entry.{Entry}
use Rattle.report_lines.specs.declared.entry.Entry.TheVariants as entry
use Rattle.report_lines.specs.declared.entry.LineEntry.{LineEntry}
use Rattle.report_lines.specs.Records.{Effected}
use Rattle.lawful_run.specs.Cut.{IsCut, lines_in}
use Rattle.lawful_run.specs.LinesTold.{LineTold, lines_told}
use Rattle.lawful_run.specs.Merging.{Histories, behind, events_in}
use Rattle.lawful_run.specs.Outcomes as made_of
use Rattle.lawful_run.specs.Report.{EpochReport, entries_of, epoch_entries}
use Rattle.lawful_run.specs.Run.{AreEpochRuns, IsEpochRun, IsRun, behind_all, by_slot, no_events, told_in as told_epoch}
use Rattle.lawful_run.specs.Setup.{Setup, slices_of}
use Rattle.lawful_run.specs.Trace.{epochs_told, meant_epochs, meant_from, own_epoch, stop_noted}
use Rattle.lawful_run.proofs.BookGrows.{book_grows_all}
use Rattle.lawful_run.proofs.CutLines.{count_meant, cut_nothing, cut_open, cut_whole, length-meant_from, lines_in-push, meant_epochs-push}
use Rattle.lawful_run.proofs.Growing.{by_slot-more}
use Rattle.at_rest.specs.Coming.{latest_behind}
use Rattle.audit_core.specs.Along.{AreLawfulSoFar, Behind, IsLawfulNext, IsOneEpoch, PiecesAreTheRun, behind_next, joined, none_behind, piece_of, said_in}
use Rattle.audit_core.specs.Along as along
use Rattle.audit_core.specs.Findings.{Confirmed}
use Rattle.audit_core.specs.Holding.{AreKnownTold, IsKnown}
use Rattle.audit_core.specs.Lawful.{IsLawful}
use Rattle.audit_core.specs.Pieces.{IsLawfulPiece, Piece, answers_in, events_behind, led_by, opens_behind, piece_entries, told_in}
use Rattle.audit_core.specs.Said.{AreEntries, marker, report_texts, trace_from, trace_said, trace_texts}
use Rattle.audit_core.specs.Sentences.{made_epoch}
use Rattle.audit_core.specs.declared.sentence.Sentence.TheVariants as of
use Rattle.audit_core.proofs.BackLemmas.{epoch_with, made_with, run_with}
use Rattle.audit_core.proofs.CutLemmas.{epochs_mean}
use Rattle.audit_core.proofs.KnownLemmas.{lines_known}
use Rattle.audit_core.proofs.LineOrder.{as_many, entries_told}
use Rattle.audit_core.proofs.NextEpoch.{known_told, told_means}
use Rattle.audit_core.proofs.PieceBehind.{behind_both}
use Rattle.audit_core.proofs.PlayLemmas.{no_events as none_in, no_rows}
use Rattle.audit_core.proofs.ShareLemmas.{none_shared}
use Rattle.audit_core.proofs.SaidLemmas.{NoMarker, report_behind, trace_before}

-- one epoch more of a run
module _ (setup : Setup) (slots : ℕ) where
  runs_more : (first : ℕ) (before : Histories) (made : List (List Meaning)) (others : List EpochReport)
      (now : List Meaning) (told : EpochReport) → AreEpochRuns setup slots first before made others
      → IsEpochRun setup slots (first + length (flat_map (λ (lines : List Meaning). lines) made))
      (behind_all before made others) now told
      → AreEpochRuns setup slots first before (made ++ now ∷ []) (others ++ told ∷ [])
  runs_more first before [] [] now told runs run =
      (subst (λ n. IsEpochRun setup slots n before now told) (omega arith) run, tt)
  runs_more first before [] (other ∷ others) now told runs run = absurd runs
  runs_more first before (one ∷ made) [] now told runs run = absurd runs
  runs_more first before (one ∷ made) (other ∷ others) now told runs run = (
    runs.0,
    runs_more (first + length one) (behind before (told_epoch one other)) made others now told runs.1
        (subst (λ n. IsEpochRun setup slots n (behind_all (behind before (told_epoch one other)) made others) now told)
        (let count = length-append one (flat_map (λ (lines : List Meaning). lines) made) in omega (arith, count)) run),
  )

behind_more : (before : Histories) (made : List (List Meaning)) (others : List EpochReport) (now : List Meaning)
    (told : EpochReport) → length others ≡ length made
    → behind_all before (made ++ now ∷ []) (others ++ told ∷ [])
    ≡ behind (behind_all before made others) (told_epoch now told)
behind_more before [] [] now told many = refl
behind_more before [] (other ∷ others) now told many = absurd (omega (arith, many))
behind_more before (one ∷ made) [] now told many = absurd (omega (arith, many))
behind_more before (one ∷ made) (other ∷ others) now told many =
    behind_more (behind before (told_epoch one other)) made others now told (omega (arith, many))

-- a piece's lines with their entries are about the slots of the book behind them
module _ (own : Piece) (holds : IsLawfulPiece own) (known : All (IsKnown own.slots) own.made) where
  many : length (answers_in own) ≡ length own.made
  many = as_many (own.lines + 1) own.made (answers_in own) (holds of.Answers)

  known_in : AreKnownTold own.slots (told_in own)
  known_in = known_told own.slots (told_in own) own.made (told_means own.made (answers_in own) many) known

  -- more slots change nothing
  effects_more : (more : ℕ)
      → by_slot (own.slots + more) (λ slot. made_of.effects slot (own.before slot)
      (events_in (own.before slot) (told_in own) slot))
      ≡ by_slot own.slots (λ slot. made_of.effects slot (own.before slot)
      (events_in (own.before slot) (told_in own) slot))
  effects_more more =
      by_slot-more own.slots more
      (λ slot. made_of.effects slot (own.before slot) (events_in (own.before slot) (told_in own) slot))
      (λ slot past. ap (made_of.effects slot (own.before slot))
      (none_in slot (own.before slot) (told_in own) (none_shared own.slots slot (told_in own) known_in past)))

  rows_more : (more : ℕ)
      → by_slot (own.slots + more) (λ slot. made_of.rows slot (own.before slot)
      (events_in (own.before slot) (told_in own) slot))
      ≡ by_slot own.slots (λ slot. made_of.rows slot (own.before slot)
      (events_in (own.before slot) (told_in own) slot))
  rows_more more =
      by_slot-more own.slots more
      (λ slot. made_of.rows slot (own.before slot) (events_in (own.before slot) (told_in own) slot))
      (λ slot past. ap (made_of.rows slot (own.before slot))
      (none_in slot (own.before slot) (told_in own) (none_shared own.slots slot (told_in own) known_in past))
      ∙ no_rows slot (own.before slot))

  abbrev pub its : EpochReport
  its = epoch_with own.setup own.slots own.before own.made (answers_in own)

  pub led_is : led_by own ≡ its
  led_is = made_with own.setup own.slots (own.lines + 1) own.before own.made (answers_in own) (holds of.Answers)

  -- it is an epoch of a run of so many slots, or more
  pub its_run : (slots : ℕ) → own.slots ≤ slots
      → IsEpochRun own.setup slots (own.lines + 1) own.before own.made its
  its_run slots low =
      let run = run_with own.setup own.slots (own.lines + 1) own.before own.made (answers_in own) (holds of.Answers)
      (holds of.Numbers) (holds of.Counts) (holds of.Gateway) (holds of.Waits) in
      let at : own.slots + (slots - own.slots) ≡ slots = omega (arith, low) in
      record {
        one_each = run.one_each;
        command_numbers = run.command_numbers;
        packet_numbers = run.packet_numbers;
        counts_rise = run.counts_rise;
        bounds = run.bounds;
        replies = run.replies;
        verdicts = run.verdicts;
        effects = sym (effects_more (slots - own.slots)) ∙ ap (λ n. by_slot n (λ slot. made_of.effects slot
            (own.before slot) (events_in (own.before slot) (told_in own) slot))) at;
        rows = sym (rows_more (slots - own.slots)) ∙ ap (λ n. by_slot n (λ slot. made_of.rows slot
            (own.before slot) (events_in (own.before slot) (told_in own) slot))) at;
        refusals = run.refusals;
        parking = run.parking;
      }

-- lines that end no epoch, and those of a whole one, behind whole epochs
cut_lines : (done : List Line) (closed : List (List Line)) (open_ lines : List Line) → IsCut done closed open_
    → NoneEnds open_ lines → IsCut (done ++ lines) closed (open_ ++ lines)
cut_lines done closed open_ [] cut none =
    subst (λ l. IsCut l closed (open_ ++ [])) (sym (append-nil done))
    (subst (IsCut done closed) (sym (append-nil open_)) cut)
cut_lines done closed open_ (line ∷ lines) cut none =
    subst (λ l. IsCut l closed (open_ ++ line ∷ lines)) (append_assoc done (line ∷ []) lines)
    (subst (IsCut ((done ++ line ∷ []) ++ lines) closed) (append_assoc open_ (line ∷ []) lines)
    (cut_lines (done ++ line ∷ []) closed (open_ ++ line ∷ []) lines (cut_open done closed open_ line cut none.0)
    none.1))

pub cut_epoch : (done : List Line) (closed : List (List Line)) (lines : List Line) → IsCut done closed [] → IsEpoch lines
    → IsCut (done ++ lines) (closed ++ lines ∷ []) []
cut_epoch done closed lines cut is =
    subst (λ l. IsCut (done ++ l) (closed ++ l ∷ []) []) (sym is.2)
    (subst (λ l. IsCut l (closed ++ (is.0 ++ is.1 ∷ []) ∷ []) []) (append_assoc done is.0 (is.1 ∷ []))
    (cut_whole (done ++ is.0) closed is.0 is.1 (cut_lines done closed [] is.0 cut is.3) is.4))

-- What lawful pieces come to: whole epochs of lines, and a run of them whose entries are those of the pieces.
record RunsTo (setup : Setup) (prefix : List (List Text)) (known : Behind) : Type 0 where
  closed : List (List Line)
  cut : IsCut known.lines closed []
  others : List EpochReport
  many : length others ≡ length closed
  runs : (slots : ℕ) → length (book_of known.lines) ≤ slots
      → AreEpochRuns setup slots 1 no_events (meant_epochs (slices_of setup) [] closed) others
  events : behind_all no_events (meant_epochs (slices_of setup) [] closed) others ≡ known.events
  report : flat_map report_texts prefix ≡ map entry_text (flat_map epoch_entries others)
  ranges : All IsEntry (flat_map epoch_entries others)
  trace : (later : List Text) → trace_from 1 0 (flat_map trace_texts prefix ++ later)
      ≡ after_lines known.lines
      (trace_from (length known.lines + 1) (latest_behind 0 known.lines) later)

many_meant : (slices : ℕ) (before : List Line) (closed : List (List Line))
    → length (meant_epochs slices before closed) ≡ length closed
many_meant slices before [] = refl
many_meant slices before (epoch ∷ closed) = ap suc (many_meant slices (before ++ epoch) closed)

-- the lines that a piece says, and those behind them
pub from_lines : (n least : ℕ) (texts later : List Text) → (trace_from n least texts).stop ≡ ended
    → trace_from n least (texts ++ later)
    ≡ after_lines (trace_from n least texts).lines
    (trace_from (n + length (trace_from n least texts).lines)
    (latest_behind least (trace_from n least texts).lines) later)
from_lines n least [] later is = let at : n ≡ n + 0 = omega arith in ap (λ k. trace_from k least later) at
from_lines n least (text ∷ texts) later is =
    by (line_meaning least n text) is (λ line same. from_lines (n + 1) line.moment texts later same)
  where
    by : (means : Result Line LineBad)
        → (line_then n means (λ line. trace_from (n + 1) line.moment texts)).stop ≡ ended
        → ((line : Line) → (trace_from (n + 1) line.moment texts).stop ≡ ended
        → trace_from (n + 1) line.moment (texts ++ later)
        ≡ after_lines (trace_from (n + 1) line.moment texts).lines
        (trace_from (n + 1 + length (trace_from (n + 1) line.moment texts).lines)
        (latest_behind line.moment (trace_from (n + 1) line.moment texts).lines) later))
        → line_then n means (λ line. trace_from (n + 1) line.moment (texts ++ later))
        ≡ after_lines (line_then n means (λ line. trace_from (n + 1) line.moment texts)).lines
        (trace_from (n + length (line_then n means (λ line. trace_from (n + 1) line.moment texts)).lines)
        (latest_behind least (line_then n means (λ line. trace_from (n + 1) line.moment texts)).lines) later)
    by (Err why) same next = absurd (cc)
    by (Ok line) same next =
        let rest = trace_from (n + 1) line.moment texts in
        let count : n + 1 + length rest.lines ≡ n + length (line ∷ rest.lines) = omega arith in
        ap (after_lines (line ∷ [])) (next line same)
        ∙ ap (λ k. after_lines (line ∷ rest.lines) (trace_from k (latest_behind line.moment rest.lines) later)) count

runs_none : (setup : Setup) → RunsTo setup [] none_behind
runs_none setup = record {
  closed = [];
  cut = cut_nothing;
  others = [];
  many = refl;
  runs = λ slots low. tt;
  events = refl;
  report = refl;
  ranges = All-nil IsEntry;
  trace = λ later. refl;
}

noted_none : (said : Input) → said.stop ≡ ended → stop_noted said.stop ≡ []
noted_none said is = ap stop_noted is

module _ (setup : Setup) (prefix : List (List Text)) (known : Behind) (piece : List Text) (entries : List Entry)
    (runs : RunsTo setup prefix known) (lawful : IsLawfulNext setup known false piece entries) where
  abbrev own : Piece
  own = piece_of setup known false piece entries

  abbrev said : Input
  said = said_in known piece

  abbrev slices : ℕ
  slices = slices_of setup

  made_is : own.made ≡ meant_from slices known.lines said.lines
  made_is =
      ap (λ n. meant_from slices known.lines said.lines ++ n) (noted_none said lawful.one.1)
      ∙ append-nil (meant_from slices known.lines said.lines)

  known_own : All (IsKnown own.slots) own.made
  known_own =
      subst (All (IsKnown own.slots)) (sym made_is)
      (lines_known slices own.slots known.lines said.lines (omega arith))

  abbrev told : EpochReport
  told = its own lawful.holds known_own

  entries_are : entries ≡ epoch_entries told
  entries_are =
      lawful.holds of.Order ∙ append-nil (epoch_entries (led_by own)) ∙ ap epoch_entries (led_is own lawful.holds known_own)

  next_made : meant_epochs slices [] (runs.closed ++ said.lines ∷ [])
      ≡ meant_epochs slices [] runs.closed ++ own.made ∷ []
  next_made =
      meant_epochs-push slices [] runs.closed said.lines
      ∙ ap (λ l. meant_epochs slices [] runs.closed ++ meant_from slices l said.lines ∷ [])
      (sym (runs.cut.parts ∙ append-nil (lines_in runs.closed)))
      ∙ ap (λ m. meant_epochs slices [] runs.closed ++ m ∷ []) (sym made_is)

  count_before : 1 + length (flat_map (λ (lines : List Meaning). lines) (meant_epochs slices [] runs.closed))
      ≡ own.lines + 1
  count_before =
      omega (
        arith,
        count_meant slices [] runs.closed,
        ap length (runs.cut.parts ∙ append-nil (lines_in runs.closed)),
      )

  told_so : told_epoch own.made told ≡ told_in own
  told_so = refl

  runs_next : RunsTo setup (prefix ++ piece ∷ []) (behind_next setup known false piece entries)
  runs_next = record {
    closed = runs.closed ++ said.lines ∷ [];
    cut = cut_epoch known.lines runs.closed said.lines runs.cut lawful.one.0;
    others = runs.others ++ told ∷ [];
    many = length-append runs.others (told ∷ []) ∙ ap (λ n. n + 1) runs.many
        ∙ sym (length-append runs.closed (said.lines ∷ []));
    runs = λ slots low. subst (λ made. AreEpochRuns setup slots 1 no_events made (runs.others ++ told ∷ []))
        (sym next_made)
        (runs_more setup slots 1 no_events (meant_epochs slices [] runs.closed) runs.others own.made told
        (runs.runs slots (omega (arith, low, book_grows_all known.lines said.lines)))
        (subst (λ n. IsEpochRun setup slots n (behind_all no_events (meant_epochs slices [] runs.closed) runs.others)
        own.made told) (sym count_before)
        (subst (λ h. IsEpochRun setup slots (own.lines + 1) h own.made told) (sym runs.events)
        (its_run own lawful.holds known_own slots low))));
    events = ap (λ made. behind_all no_events made (runs.others ++ told ∷ [])) next_made
        ∙ behind_more no_events (meant_epochs slices [] runs.closed) runs.others own.made told
        (runs.many ∙ sym (many_meant slices [] runs.closed))
        ∙ ap (λ h. behind h (told_epoch own.made told)) runs.events;
    report = flat_map-append report_texts prefix (piece ∷ [])
        ∙ (λ i. runs.report i ++ (append-nil (report_texts piece) ∙ lawful.are.same
        ∙ ap (map entry_text) (entries_are ∙ sym (append-nil (epoch_entries told)))) i)
        ∙ sym (map-append entry_text (flat_map epoch_entries runs.others) (epoch_entries told ++ []))
        ∙ ap (map entry_text) (sym (flat_map-append epoch_entries runs.others (told ∷ [])));
    ranges = subst (All IsEntry) (sym (flat_map-append epoch_entries runs.others (told ∷ [])))
        (All-append IsEntry (flat_map epoch_entries runs.others) (epoch_entries told ++ []) runs.ranges
        (subst (All IsEntry) (entries_are ∙ sym (append-nil (epoch_entries told))) lawful.are.ranges));
    trace = trace_next;
  }
    where
      trace_next : (later : List Text)
          → trace_from 1 0 (flat_map trace_texts (prefix ++ piece ∷ []) ++ later)
          ≡ after_lines (known.lines ++ said.lines)
          (trace_from (length (known.lines ++ said.lines) + 1) (latest_behind 0 (known.lines ++ said.lines)) later)
      trace_next later =
          let rest = trace_from (length (known.lines ++ said.lines) + 1) (latest_behind 0 (known.lines ++ said.lines))
          later in
          let count : length known.lines + 1 + length said.lines ≡ length (known.lines ++ said.lines) + 1 =
          omega (arith, length-append known.lines said.lines) in
          ap (trace_from 1 0) (ap (λ t. t ++ later) (flat_map-append trace_texts prefix (piece ∷ [])
          ∙ ap (λ t. flat_map trace_texts prefix ++ t) (append-nil (trace_texts piece)))
          ∙ append_assoc (flat_map trace_texts prefix) (trace_texts piece) later)
          ∙ runs.trace (trace_texts piece ++ later)
          ∙ ap (after_lines known.lines)
          (from_lines (length known.lines + 1) (latest_behind 0 known.lines) (trace_texts piece) later lawful.one.1
          ∙ (λ i. after_lines said.lines (trace_from (count i)
          (behind_both 0 known.lines said.lines i) later)))
          ∙ ap (λ its. record { lines = its; stop = rest.stop })
          (sym (append_assoc known.lines said.lines rest.lines))

runs_to : (setup : Setup) (prefix : List (List Text)) (known : Behind) (text : List ℕ)
    → AreLawfulSoFar setup prefix known text → RunsTo setup prefix known
runs_to setup prefix known text along.begins = runs_none setup
runs_to setup prefix known text (along.goes_on before held said piece entries so lawful) =
    runs_next setup before held piece entries (runs_to setup before held said so) lawful

-- no line of a trace is the one before its report
no_marker : (texts : List Text) → NoMarker (trace_texts texts)
no_marker [] = All-nil (λ text. bytes_eq text marker ≡ false)
no_marker (text ∷ texts) = by (bytes_eq text marker) refl (no_marker texts)
  where
    by : (test : Bool) → bytes_eq text marker ≡ test → NoMarker (trace_texts texts)
        → NoMarker (if test then [] else text ∷ trace_texts texts)
    by true is others = All-nil (λ t. bytes_eq t marker ≡ false)
    by false is others = All-cons (λ t. bytes_eq t marker ≡ false) text (trace_texts texts) is others

pub no_markers : (pieces : List (List Text)) → NoMarker (flat_map trace_texts pieces)
no_markers [] = All-nil (λ text. bytes_eq text marker ≡ false)
no_markers (piece ∷ pieces) =
    All-append (λ text. bytes_eq text marker ≡ false) (trace_texts piece) (flat_map trace_texts pieces)
    (no_marker piece) (no_markers pieces)

-- no slot has anything
pub by_none : {X : Type 0} (slots : ℕ) (has : ℕ → List X) → ((slot : ℕ) → has slot ≡ []) → by_slot slots has ≡ []
by_none slots has none =
    let all : slots ≡ 0 + slots = omega arith in
    ap (λ n. by_slot n has) all ∙ by_slot-more 0 slots has (λ slot past. none slot)

-- what the last lines mean, if there are any, is one epoch more
pub last_cut : (slices : ℕ) (known : Behind) (closed : List (List Line)) (said : Input) → IsCut known.lines closed []
    → IsOneEpoch true said
    → epochs_told slices (record { lines = known.lines ++ said.lines; stop = said.stop })
    ≡ meant_epochs slices [] closed
    ++ own_epoch (meant_from slices known.lines said.lines ++ stop_noted said.stop)
last_cut slices known closed said cut (inl is) =
    let whole = is.0 in
    let stop = is.1 in
    let lines = cut.parts ∙ append-nil (lines_in closed) in
    let made = meant_from slices known.lines said.lines in
    epochs_mean slices (known.lines ++ said.lines) (closed ++ said.lines ∷ []) [] (stop_noted said.stop)
    (cut_epoch known.lines closed said.lines cut whole)
    ∙ ap (λ n. meant_epochs slices [] (closed ++ said.lines ∷ []) ++ own_epoch n) (ap stop_noted stop)
    ∙ append-nil (meant_epochs slices [] (closed ++ said.lines ∷ []))
    ∙ meant_epochs-push slices [] closed said.lines
    ∙ ap (λ l. meant_epochs slices [] closed ++ meant_from slices l said.lines ∷ []) (sym lines)
    ∙ ap (λ e. meant_epochs slices [] closed ++ e) (sym (own_some made (meant_some slices known.lines said.lines whole)))
    ∙ ap (λ m. meant_epochs slices [] closed ++ own_epoch m)
    (sym (append-nil made) ∙ ap (λ n. made ++ n) (sym (ap stop_noted stop)))
  where
    own_some : (made : List Meaning) → 0 < length made → own_epoch made ≡ made ∷ []
    own_some [] some = absurd (omega (arith, some))
    own_some (now ∷ later) some = refl

    meant_some : (slices : ℕ) (before lines : List Line) → IsEpoch lines → 0 < length (meant_from slices before lines)
    meant_some slices before lines is =
        omega (arith, length-meant_from slices before lines, ap length is.2, length-append is.0 (is.1 ∷ []))
last_cut slices known closed said cut (inr open_) =
    epochs_mean slices (known.lines ++ said.lines) closed said.lines (stop_noted said.stop)
    (cut_lines known.lines closed [] said.lines cut open_)
    ∙ ap (λ l. meant_epochs slices [] closed ++ own_epoch (meant_from slices l said.lines ++ stop_noted said.stop))
    (sym (cut.parts ∙ append-nil (lines_in closed)))

module _ (setup : Setup) (prefix : List (List Text)) (known : Behind) (piece : List Text) (entries : List Entry)
    (runs : RunsTo setup prefix known) (lawful : IsLawfulNext setup known true piece entries) where
  abbrev last : Piece
  last = piece_of setup known true piece entries

  abbrev says : Input
  says = said_in known piece

  abbrev S : ℕ
  S = slices_of setup

  known_last : All (IsKnown last.slots) last.made
  known_last =
      All-append (IsKnown last.slots) (meant_from S known.lines says.lines) (stop_noted says.stop)
      (lines_known S last.slots known.lines says.lines (omega arith)) (noted_known says.stop)
    where
      noted_known : (stop : Stop) → All (IsKnown last.slots) (stop_noted stop)
      noted_known (bad n why) = All-cons (IsKnown last.slots) _ [] tt (All-nil (IsKnown last.slots))
      noted_known (long n) = All-nil (IsKnown last.slots)
      noted_known big = All-nil (IsKnown last.slots)
      noted_known ended = All-nil (IsKnown last.slots)

  abbrev told_last : EpochReport
  told_last = its last lawful.holds known_last

  text_joined : flat_map trace_texts (prefix ++ piece ∷ []) ≡ flat_map trace_texts prefix ++ trace_texts piece
  text_joined =
      flat_map-append trace_texts prefix (piece ∷ [])
      ∙ ap (λ t. flat_map trace_texts prefix ++ t) (append-nil (trace_texts piece))

  said_joined : trace_from 1 0 (flat_map trace_texts (prefix ++ piece ∷ []))
      ≡ record { lines = known.lines ++ says.lines; stop = says.stop }
  said_joined = ap (trace_from 1 0) text_joined ∙ runs.trace (trace_texts piece)

  made_all : epochs_told S (record { lines = known.lines ++ says.lines; stop = says.stop })
      ≡ meant_epochs S [] runs.closed ++ own_epoch last.made
  made_all = last_cut S known runs.closed says runs.cut lawful.one

  abbrev prefix_entries : List Entry
  prefix_entries = flat_map epoch_entries runs.others

  led_last : entries ≡ epoch_entries told_last ++ map entry.Charge (opens_behind last)
  led_last =
      lawful.holds of.Order
      ∙ ap (λ e. epoch_entries e ++ map entry.Charge (opens_behind last)) (led_is last lawful.holds known_last)

  count_last : 1 + length (flat_map (λ (lines : List Meaning). lines) (meant_epochs S [] runs.closed))
      ≡ last.lines + 1
  count_last =
      omega (
        arith,
        count_meant S [] runs.closed,
        ap length (runs.cut.parts ∙ append-nil (lines_in runs.closed)),
      )

  before_last : behind_all no_events (meant_epochs S [] runs.closed) runs.others ≡ last.before
  before_last = runs.events

  -- where the last piece has lines they are one epoch more
  some_last : (now : Meaning) (later : List Meaning) → last.made ≡ now ∷ later
      → IsLawful setup last.slots (meant_epochs S [] runs.closed ++ own_epoch last.made) (prefix_entries ++ entries)
  some_last now later is =
      let own_is : own_epoch last.made ≡ last.made ∷ [] = ap own_epoch is ∙ ap (λ m. m ∷ []) (sym is) in
      let epochs = runs.others ++ told_last ∷ [] in
      let made = meant_epochs S [] runs.closed ++ last.made ∷ [] in
      subst (λ e. IsLawful setup last.slots (meant_epochs S [] runs.closed ++ e) (prefix_entries ++ entries)) (sym own_is) (
        record { epochs = epochs; opens = opens_behind last },
        record {
          epochs = runs_more setup last.slots 1 no_events (meant_epochs S [] runs.closed) runs.others last.made told_last
              (runs.runs last.slots (book_grows_all known.lines says.lines))
              (subst (λ n. IsEpochRun setup last.slots n
              (behind_all no_events (meant_epochs S [] runs.closed) runs.others) last.made told_last) (sym count_last)
              (subst (λ h. IsEpochRun setup last.slots (last.lines + 1) h last.made told_last) (sym before_last)
              (its_run last lawful.holds known_last last.slots (omega arith))));
          opens = ap (λ (h : Histories). by_slot last.slots (λ slot. made_of.opens slot (h slot)))
              (sym (behind_more no_events (meant_epochs S [] runs.closed) runs.others last.made told_last
              (runs.many ∙ sym (many_meant S [] runs.closed))
              ∙ ap (λ h. behind h (told_epoch last.made told_last)) before_last));
        },
        ap (λ e. prefix_entries ++ e) led_last
            ∙ sym (append_assoc prefix_entries (epoch_entries told_last) (map entry.Charge (opens_behind last)))
            ∙ ap (λ e. e ++ map entry.Charge (opens_behind last))
            (sym (flat_map-append epoch_entries runs.others (told_last ∷ [])
            ∙ ap (λ e. prefix_entries ++ e) (append-nil (epoch_entries told_last)))),
      )

  -- where it has none only open counters are told
  none_last : last.made ≡ []
      → IsLawful setup last.slots (meant_epochs S [] runs.closed ++ own_epoch last.made) (prefix_entries ++ entries)
  none_last is =
      let own_is : own_epoch last.made ≡ [] = ap own_epoch is in
      let told_none : told_in last ≡ [] = ap (λ m. lines_told m (answers_in last)) is in
      let event_none : (slot : ℕ) → events_in (last.before slot) (told_in last) slot ≡ [] =
      λ slot. ap (λ l. events_in (last.before slot) l slot) told_none in
      let effects_none : (led_by last).effects ≡ [] =
      by_none last.slots
      (λ slot. made_of.effects slot (last.before slot) (events_in (last.before slot) (told_in last) slot))
      (λ slot. ap (made_of.effects slot (last.before slot)) (event_none slot)) in
      let rows_none : (led_by last).rows ≡ [] =
      by_none last.slots
      (λ slot. made_of.rows slot (last.before slot) (events_in (last.before slot) (told_in last) slot))
      (λ slot. ap (made_of.rows slot (last.before slot)) (event_none slot) ∙ no_rows slot (last.before slot)) in
      let entries_none : entries ≡ map entry.Charge (opens_behind last) =
      lawful.holds of.Order
      ∙ (λ i. epoch_entries (record {
        lines = map (λ (t : LineTold). t.entry) (told_none i);
        effects = effects_none i;
        rows = rows_none i;
      }) ++ map entry.Charge (opens_behind last)) in
      subst (λ e. IsLawful setup last.slots (meant_epochs S [] runs.closed ++ e) (prefix_entries ++ entries)) (sym own_is)
      (subst (λ m. IsLawful setup last.slots m (prefix_entries ++ entries))
      (sym (append-nil (meant_epochs S [] runs.closed))) (
        record { epochs = runs.others; opens = opens_behind last },
        record {
          epochs = runs.runs last.slots (book_grows_all known.lines says.lines);
          opens = (λ i. by_slot last.slots (λ slot. made_of.opens slot
              ((ap (λ es. last.before slot ++ es) (event_none slot) ∙ append-nil (last.before slot)
              ∙ ap (λ (h : Histories). h slot) (sym before_last)) i)));
        },
        ap (λ e. prefix_entries ++ e) entries_none,
      ))

  confirmed : Confirmed setup (joined (prefix ++ piece ∷ []))
  confirmed =
      let pieces = prefix ++ piece ∷ [] in
      let said : trace_said (joined pieces) ≡ record { lines = known.lines ++ says.lines; stop = says.stop } =
      ap (trace_from 1 0) (trace_before (flat_map trace_texts pieces) (flat_map report_texts pieces) (no_markers pieces))
      ∙ said_joined in
      let report : report_texts (joined pieces) ≡ flat_map report_texts pieces =
      report_behind (flat_map trace_texts pieces) (flat_map report_texts pieces) (no_markers pieces) in
      record {
        entries = prefix_entries ++ entries;
        are = record {
          same = report ∙ flat_map-append report_texts prefix (piece ∷ [])
              ∙ (λ i. runs.report i ++ (append-nil (report_texts piece) ∙ lawful.are.same) i)
              ∙ sym (map-append entry_text prefix_entries entries);
          ranges = All-append IsEntry prefix_entries entries runs.ranges lawful.are.ranges;
        };
        lawful = subst (λ (input : Input). IsLawful setup (length (book_of input.lines)) (epochs_told S input)
            (prefix_entries ++ entries)) (sym said)
            (subst (λ m. IsLawful setup last.slots m (prefix_entries ++ entries)) (sym made_all)
            (by last.made refl));
      }
    where
      by : (made : List Meaning) → last.made ≡ made
          → IsLawful setup last.slots (meant_epochs S [] runs.closed ++ own_epoch last.made) (prefix_entries ++ entries)
      by [] is = none_last is
      by (now ∷ later) is = some_last now later is

-- all of them together
pub pieces_are_the_run : PiecesAreTheRun
pieces_are_the_run setup prefix known text piece entries so lawful =
    confirmed setup prefix known piece entries (runs_to setup prefix known text so) lawful
