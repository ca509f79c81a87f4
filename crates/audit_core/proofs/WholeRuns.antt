-- Where whole pieces, joined, are a lawful run, each of them is lawful; and lawful pieces are whole.
use Rattle.std.proofs.Common.{◌≡◌, ℕ, ◌+◌, ◌<◌, ◌≤◌, true, false, Bool, List, [], ◌∷◌, ◌++◌, length, map, refl, sym, ap, subst, ◌∙◌, arith, append_assoc, append-nil, length-append}
use Rattle.std.specs.List.{All, filter_map, flat_map}
use Rattle.std.proofs.lemmas.List.{length-map, map-append}
use Rattle.std.proofs.lemmas.List.Elements.{All-append, All-cons, All-nil}
use Rattle.pc_outside.specs.Texts.{Text}
use Rattle.trace_lines.specs.Epochs.{IsEpoch}
use Rattle.trace_lines.specs.Input.{Input, Stop, after_lines, bad, big, ended, long}
use Rattle.trace_lines.specs.Line.{Line}
use Rattle.demux.specs.Trace.{Meaning, book_of}
use Rattle.report_lines.specs.Ranges.{IsEntry}
use Rattle.report_lines.specs.Text.{entry_text}
use Rattle.report_lines.specs.declared.entry.ChargeEntry.{ChargeEntry}
use Rattle.report_lines.specs.declared.entry.Entry.{Entry}
use Rattle.report_lines.specs.declared.entry.Entry.TheVariants as entry
use Rattle.lawful_run.specs.Cut.{IsCut, lines_in}
use Rattle.lawful_run.specs.LinesTold.{LineTold, lines_told}
use Rattle.lawful_run.specs.Merging.{Histories, behind, events_in}
use Rattle.lawful_run.specs.Outcomes as made_of
use Rattle.lawful_run.specs.Report.{EpochReport, epoch_entries}
use Rattle.lawful_run.specs.Run.{AreEpochRuns, IsEpochRun, behind_all, by_slot, no_events, told_in as told_epoch}
use Rattle.lawful_run.specs.Setup.{Setup, slices_of}
use Rattle.lawful_run.specs.Trace.{epochs_told, meant_epochs, meant_from, own_epoch, stop_noted}
use Rattle.lawful_run.proofs.BookGrows.{book_grows_all}
use Rattle.lawful_run.proofs.CutLines.{cut_nothing, length-meant_from, meant_epochs-push}
use Rattle.at_rest.specs.Coming.{latest_behind}
use Rattle.audit_core.specs.Along.{AreLawfulSoFar, Behind, IsLawfulNext, SaysNo, SaysYes, behind_next, joined, last_text, lawful_text, none_behind, piece_of, pieces_of, said_in}
use Rattle.audit_core.specs.Along as along
use Rattle.audit_core.specs.Entries.{line_entries, opens_told}
use Rattle.audit_core.specs.Findings.{Confirmed}
use Rattle.audit_core.specs.Holding.{IsKnown}
use Rattle.audit_core.specs.Lawful.{IsLawful}
use Rattle.audit_core.specs.Pieces.{Piece, answers_in, events_behind, led_by, opens_asked, opens_behind, piece_entries, told_in}
use Rattle.audit_core.specs.Said.{AreEntries, marker, report_texts, trace_from, trace_said, trace_texts}
use Rattle.audit_core.specs.WholePieces.{AreWhole, BeginsOwn, IsWhole, NoAsJoined, YesAsJoined, said_behind}
use Rattle.audit_core.specs.declared.sentence.Sentence.TheVariants as of
use Rattle.audit_core.proofs.AlongOnce.{yes_or_no}
use Rattle.audit_core.proofs.KnownLemmas.{lines_known}
use Rattle.audit_core.proofs.LineOrder.{as_many, entries_told}
use Rattle.audit_core.proofs.PieceBehind.{behind_both}
use Rattle.audit_core.proofs.PiecesRun.{by_none, cut_epoch, from_lines, last_cut, no_markers, pieces_are_the_run}
use Rattle.audit_core.proofs.Placed.{as_row}
use Rattle.audit_core.proofs.PlayLemmas.{no_rows}
use Rattle.audit_core.proofs.SaidLemmas.{one_list, report_behind, trace_before}
use Rattle.audit_core.proofs.WholeBlocks.{FirstHas, asked_if, asked_opens, begins_both, begins_epochs, begins_lines, begins_opens, lines_of_epoch, none_of, parted_epoch, run_rows}
use Rattle.audit_core.proofs.WholeEpochs.{lawful_piece, told_are}

epoch_some : (lines : List Line) → IsEpoch lines → 0 < length lines
epoch_some lines is = omega (arith, ap length is.2, length-append is.0 (is.1 ∷ []))

-- ---- what whole pieces say

-- all that they say behind these lines
abbrev said_all : List Line → List (List Text) → Input
said_all before pieces = trace_from (length before + 1) (latest_behind 0 before) (flat_map trace_texts pieces)

said_on : (before : List Line) (piece : List Text) (pieces : List (List Text))
    → (said_behind before piece).stop ≡ ended
    → said_all before (piece ∷ pieces)
    ≡ after_lines (said_behind before piece).lines (said_all (before ++ (said_behind before piece).lines) pieces)
said_on before piece pieces is =
    let own = (said_behind before piece).lines in
    let count : length before + 1 + length own ≡ length (before ++ own) + 1 =
    omega (arith, length-append before own) in
    from_lines (length before + 1) (latest_behind 0 before) (trace_texts piece) (flat_map trace_texts pieces) is
    ∙ (λ i. after_lines own (trace_from (count i) (behind_both 0 before own i) (flat_map trace_texts pieces)))

said_last : (before : List Line) (piece : List Text) → said_all before (piece ∷ []) ≡ said_behind before piece
said_last before piece =
    ap (trace_from (length before + 1) (latest_behind 0 before)) (append-nil (trace_texts piece))

-- what they mean, epoch by epoch
abbrev made_left : ℕ → List Line → List (List Text) → List (List Meaning)
made_left slices before [] = []
made_left slices before (piece ∷ []) =
    own_epoch (meant_from slices before (said_behind before piece).lines ++ stop_noted (said_behind before piece).stop)
made_left slices before (piece ∷ next ∷ later) =
    meant_from slices before (said_behind before piece).lines
    ∷ made_left slices (before ++ (said_behind before piece).lines) (next ∷ later)

made_there : (slices : ℕ) (before : List Line) (closed : List (List Line)) (pieces : List (List Text))
    → IsCut before closed [] → AreWhole before pieces
    → epochs_told slices (after_lines before (said_all before pieces))
    ≡ meant_epochs slices [] closed ++ made_left slices before pieces
made_there slices before closed [] cut whole = absurd whole
made_there slices before closed (piece ∷ []) cut whole =
    ap (λ (said : Input). epochs_told slices (after_lines before said)) (said_last before piece)
    ∙ last_cut slices (record { epochs = 0; lines = before; events = no_events }) closed (said_behind before piece) cut
    whole.one
made_there slices before closed (piece ∷ next ∷ later) cut whole =
    let own = (said_behind before piece).lines in
    let rest = said_all (before ++ own) (next ∷ later) in
    let made = meant_from slices before own in
    let others = made_left slices (before ++ own) (next ∷ later) in
    let lines : lines_in closed ≡ before = sym (cut.parts ∙ append-nil (lines_in closed)) in
    ap (λ (said : Input). epochs_told slices (after_lines before said))
    (said_on before piece (next ∷ later) whole.0.one.1)
    ∙ ap (λ l. epochs_told slices (record { lines = l; stop = rest.stop })) (sym (append_assoc before own rest.lines))
    ∙ made_there slices (before ++ own) (closed ++ own ∷ []) (next ∷ later)
    (cut_epoch before closed own cut whole.0.one.0) whole.1
    ∙ ap (λ m. m ++ others) (meant_epochs-push slices [] closed own
    ∙ ap (λ l. meant_epochs slices [] closed ++ meant_from slices l own ∷ []) lines)
    ∙ append_assoc (meant_epochs slices [] closed) (made ∷ []) others

first_left : (slices : ℕ) (before : List Line) (pieces : List (List Text)) → AreWhole before pieces
    → FirstHas (made_left slices before pieces)
first_left slices before [] whole = absurd whole
first_left slices before (piece ∷ []) whole =
    by (meant_from slices before (said_behind before piece).lines ++ stop_noted (said_behind before piece).stop)
  where
    by : (made : List Meaning) → FirstHas (own_epoch made)
    by [] = tt
    by (now ∷ later) = omega arith
first_left slices before (piece ∷ next ∷ later) whole =
    omega (
      arith,
      epoch_some (said_behind before piece).lines whole.0.one.0,
      length-meant_from slices before (said_behind before piece).lines,
    )

-- their entries
abbrev entries_left : (before : List Line) (pieces : List (List Text)) → AreWhole before pieces → List Entry
entries_left before [] whole = []
entries_left before (piece ∷ []) whole = whole.entries
entries_left before (piece ∷ next ∷ later) whole =
    whole.0.entries ++ entries_left (before ++ (said_behind before piece).lines) (next ∷ later) whole.1

are_left : (before : List Line) (pieces : List (List Text)) (whole : AreWhole before pieces)
    → AreEntries (flat_map report_texts pieces) (entries_left before pieces whole)
are_left before [] whole = absurd whole
are_left before (piece ∷ []) whole = record {
  same = append-nil (report_texts piece) ∙ whole.are.same;
  ranges = whole.are.ranges;
}
are_left before (piece ∷ next ∷ later) whole =
    let others = entries_left (before ++ (said_behind before piece).lines) (next ∷ later) whole.1 in
    let rest = are_left (before ++ (said_behind before piece).lines) (next ∷ later) whole.1 in
    record {
      same = (λ i. whole.0.are.same i ++ rest.same i) ∙ sym (map-append entry_text whole.0.entries others);
      ranges = All-append IsEntry whole.0.entries others whole.0.are.ranges rest.ranges;
    }

some_entries : (entries : List Entry) → 0 < length (line_entries entries) → 0 < length entries
some_entries [] some = absurd (omega (arith, some))
some_entries (first ∷ later) some = omega arith

begins_left : (before : List Line) (pieces : List (List Text)) (whole : AreWhole before pieces)
    → BeginsOwn (entries_left before pieces whole)
begins_left before [] whole = absurd whole
begins_left before (piece ∷ []) whole = whole.begins
begins_left before (piece ∷ next ∷ later) whole =
    begins_both whole.0.entries (entries_left (before ++ (said_behind before piece).lines) (next ∷ later) whole.1)
    (some_entries whole.0.entries
    (omega (arith, whole.0.as_many, epoch_some (said_behind before piece).lines whole.0.one.0))) whole.0.begins

-- ---- one piece

known_own : (setup : Setup) (known : Behind) (last : Bool) (piece : List Text) (entries : List Entry)
    → All (IsKnown (length (book_of (known.lines ++ (said_in known piece).lines))))
    (piece_of setup known last piece entries).made
known_own setup known last piece entries =
    let said = said_in known piece in
    let slots = length (book_of (known.lines ++ said.lines)) in
    let slices = slices_of setup in
    All-append (IsKnown slots) (meant_from slices known.lines said.lines) (stop_noted said.stop)
    (lines_known slices slots known.lines said.lines (omega arith)) (noted_known slots said.stop)
  where
    noted_known : (slots : ℕ) (stop : Stop) → All (IsKnown slots) (stop_noted stop)
    noted_known slots (bad n why) = All-cons (IsKnown slots) _ [] tt (All-nil (IsKnown slots))
    noted_known slots (long n) = All-nil (IsKnown slots)
    noted_known slots big = All-nil (IsKnown slots)
    noted_known slots ended = All-nil (IsKnown slots)

-- lines and a bad line that are at most one epoch: of a run, with all that is told of them
record OneRun (setup : Setup) (slots first : ℕ) (before : Histories) (made : List Meaning) (opens : List ChargeEntry)
    (entries : List Entry) : Type 0 where
  told : EpochReport
  run : IsEpochRun setup slots first before made told
  are : entries ≡ epoch_entries told ++ map entry.Charge opens
  asked : opens ≡ by_slot slots (λ slot. made_of.opens slot (behind before (told_epoch made told) slot))

abbrev nothing : EpochReport
nothing = record { lines = []; effects = []; rows = [] }

run_nothing : (setup : Setup) (slots first : ℕ) (before : Histories) → IsEpochRun setup slots first before [] nothing
run_nothing setup slots first before = record {
  one_each = tt;
  command_numbers = λ slot. refl;
  packet_numbers = λ slot. refl;
  counts_rise = λ slot. tt;
  bounds = tt;
  replies = λ slot. refl;
  verdicts = λ slot. refl;
  effects = sym (by_none slots (λ slot. made_of.effects slot (before slot) (events_in (before slot) [] slot))
      (λ slot. refl));
  rows = sym (by_none slots (λ slot. made_of.rows slot (before slot) (events_in (before slot) [] slot))
      (λ slot. no_rows slot (before slot)));
  refusals = tt;
  parking = tt;
}

one_run : (setup : Setup) (slots first : ℕ) (before : Histories) (made : List Meaning) (others : List EpochReport)
    (opens : List ChargeEntry) (entries : List Entry) → AreEpochRuns setup slots first before (own_epoch made) others
    → opens ≡ by_slot slots (λ slot. made_of.opens slot (behind_all before (own_epoch made) others slot))
    → entries ≡ flat_map epoch_entries others ++ map entry.Charge opens
    → OneRun setup slots first before made opens entries
one_run setup slots first before [] [] opens entries runs asked are = record {
  told = nothing;
  run = run_nothing setup slots first before;
  are = are;
  asked = asked ∙ (λ i. by_slot slots (λ slot. made_of.opens slot (sym (append-nil (before slot)) i)));
}
one_run setup slots first before [] (told ∷ others) opens entries runs asked are = absurd runs
one_run setup slots first before (now ∷ later) [] opens entries runs asked are = absurd runs
one_run setup slots first before (now ∷ later) (told ∷ []) opens entries runs asked are = record {
  told = told;
  run = runs.0;
  are = are ∙ ap (λ es. es ++ map entry.Charge opens) (append-nil (epoch_entries told));
  asked = asked;
}
one_run setup slots first before (now ∷ later) (told ∷ other ∷ others) opens entries runs asked are = absurd runs.1

-- the last piece
last_lawful : (setup : Setup) (slots : ℕ) (known : Behind) (piece : List Text) (whole : IsWhole known.lines true piece)
    (others : List EpochReport) (opens : List ChargeEntry)
    → slots ≡ length (book_of (known.lines ++ (said_all known.lines (piece ∷ [])).lines))
    → AreEpochRuns setup slots (length known.lines + 1) known.events
    (made_left (slices_of setup) known.lines (piece ∷ [])) others
    → opens ≡ by_slot slots (λ slot. made_of.opens slot
    (behind_all known.events (made_left (slices_of setup) known.lines (piece ∷ [])) others slot))
    → whole.entries ≡ flat_map epoch_entries others ++ map entry.Charge opens
    → IsLawfulNext setup known true piece whole.entries
last_lawful setup slots known piece whole others opens many runs asked are =
    let own = piece_of setup known true piece whole.entries in
    let one = one_run setup slots (own.lines + 1) own.before own.made others opens whole.entries runs asked are in
    let same : slots ≡ own.slots =
    many ∙ ap (λ (said : Input). length (book_of (known.lines ++ said.lines))) (said_last known.lines piece) in
    record {
      are = whole.are;
      one = whole.one;
      holds = lawful_piece own slots one.told opens (omega (arith, same))
          (known_own setup known true piece whole.entries) one.run one.are
          (one.asked ∙ ap (λ n. by_slot n (λ slot. made_of.opens slot
          (behind own.before (told_epoch own.made one.told) slot))) same);
    }

-- ---- piece after piece

module _ (setup : Setup) (slots : ℕ) where
  -- a piece before the last one, whose entries were parted from those behind it
  module _ (known : Behind) (piece : List Text) (whole : IsWhole known.lines false piece) (told : EpochReport)
      (low : length (book_of (known.lines ++ (said_in known piece).lines)) ≤ slots)
      (run : IsEpochRun setup slots (length known.lines + 1) known.events
      (meant_from (slices_of setup) known.lines (said_in known piece).lines) told)
      (are : whole.entries ≡ epoch_entries told) where
    abbrev own : Piece
    own = piece_of setup known false piece whole.entries

    abbrev its : List Meaning
    its = meant_from (slices_of setup) known.lines (said_in known piece).lines

    made_is : own.made ≡ its
    made_is = ap (λ stop. its ++ stop_noted stop) whole.one.1 ∙ append-nil its

    run_own : IsEpochRun setup slots (own.lines + 1) own.before own.made told
    run_own = subst (λ m. IsEpochRun setup slots (own.lines + 1) own.before m told) (sym made_is) run

    are_own : own.entries ≡ epoch_entries told ++ map entry.Charge []
    are_own = are ∙ sym (append-nil (epoch_entries told))

    next_lawful : IsLawfulNext setup known false piece whole.entries
    next_lawful = record {
      are = whole.are;
      one = whole.one;
      holds = lawful_piece own slots told [] low (known_own setup known false piece whole.entries) run_own are_own refl;
    }

    events_are : behind known.events (told_epoch its told) ≡ (behind_next setup known false piece whole.entries).events
    events_are =
        ap (λ (l : List LineTold). behind known.events l)
        (ap (λ m. lines_told m told.lines) (sym made_is)
        ∙ sym (told_are own slots told [] low (known_own setup known false piece whole.entries) run_own are_own refl))

  yes_left : (texts : List Text) (prefix : List (List Text)) (known : Behind) (said : List ℕ)
      (pieces : List (List Text)) (whole : AreWhole known.lines pieces) (others : List EpochReport)
      (opens : List ChargeEntry) → pieces_of texts ≡ prefix ++ pieces → AreLawfulSoFar setup prefix known said
      → slots ≡ length (book_of (known.lines ++ (said_all known.lines pieces).lines))
      → AreEpochRuns setup slots (length known.lines + 1) known.events
      (made_left (slices_of setup) known.lines pieces) others
      → opens ≡ by_slot slots (λ slot. made_of.opens slot
      (behind_all known.events (made_left (slices_of setup) known.lines pieces) others slot))
      → entries_left known.lines pieces whole ≡ flat_map epoch_entries others ++ map entry.Charge opens
      → (text : List ℕ) × SaysYes setup texts text
  yes_left texts prefix known said [] whole others opens parts so many runs asked are = absurd whole
  yes_left texts prefix known said (piece ∷ []) whole others opens parts so many runs asked are = (
    said ++ last_text known (said_in known piece),
    record {
      prefix = prefix;
      piece = piece;
      known = known;
      said = said;
      entries = whole.entries;
      parts = parts;
      so = so;
      lawful = last_lawful setup slots known piece whole others opens many runs asked are;
      is = refl;
    },
  )
  yes_left texts prefix known said (piece ∷ next ∷ later) whole [] opens parts so many runs asked are = absurd runs
  yes_left texts prefix known said (piece ∷ next ∷ later) whole (told ∷ others) opens parts so many runs asked are =
      let slices = slices_of setup in
      let own = (said_in known piece).lines in
      let held = known.lines ++ own in
      let its = meant_from slices known.lines own in
      let made = made_left slices held (next ∷ later) in
      let after = entries_left held (next ∷ later) whole.1 in
      let more = flat_map epoch_entries others ++ map entry.Charge opens in
      let next_known = behind_next setup known false piece whole.0.entries in
      let lines : (said_all known.lines (piece ∷ next ∷ later)).lines ≡ own ++ (said_all held (next ∷ later)).lines =
      ap (λ (input : Input). input.lines) (said_on known.lines piece (next ∷ later) whole.0.one.1) in
      let many_next : slots ≡ length (book_of (held ++ (said_all held (next ∷ later)).lines)) =
      many ∙ ap (λ l. length (book_of l)) (ap (λ l. known.lines ++ l) lines
      ∙ sym (append_assoc known.lines own (said_all held (next ∷ later)).lines)) in
      let low : length (book_of held) ≤ slots =
      omega (arith, many_next, book_grows_all held (said_all held (next ∷ later)).lines) in
      let answers = as_many (length known.lines + 1) its told.lines runs.0.one_each in
      let quiet : filter_map as_row opens ≡ [] =
      ap (filter_map as_row) asked ∙ (asked_opens true slots
      (behind_all known.events (made_left slices known.lines (piece ∷ next ∷ later)) (told ∷ others))).0 in
      let count : length (line_entries whole.0.entries) ≡ length told.lines =
      omega (
        arith,
        whole.0.as_many,
        ap (λ stop. length (stop_noted stop)) whole.0.one.1,
        answers,
        length-meant_from slices known.lines own,
      ) in
      let first : length known.lines + 1 + length its ≡ length held + 1 =
      omega (arith, length-meant_from slices known.lines own, length-append known.lines own) in
      let ends =
      parted_epoch told whole.0.entries after more count (whole.0.opens refl)
      (run_rows setup slots (length known.lines + 1) known.events its told runs.0).1
      (begins_left held (next ∷ later) whole.1)
      (begins_epochs setup slots (length known.lines + 1 + length its) (behind known.events (told_epoch its told)) made
      others opens runs.1 (first_left slices held (next ∷ later) whole.1) quiet)
      (are ∙ append_assoc (epoch_entries told) (flat_map epoch_entries others) (map entry.Charge opens)) in
      let events = events_are known piece whole.0 told low runs.0 ends.0 in
      yes_left texts (prefix ++ piece ∷ []) next_known
      (said ++ lawful_text (known.epochs + 1) (length known.lines + length own)) (next ∷ later) whole.1 others opens
      (parts ∙ sym (append_assoc prefix (piece ∷ []) (next ∷ later)))
      (along.goes_on prefix known said piece whole.0.entries so (next_lawful known piece whole.0 told low runs.0 ends.0))
      many_next
      (subst (λ n. AreEpochRuns setup slots n next_known.events made others) first
      (subst (λ (h : Histories). AreEpochRuns setup slots (length known.lines + 1 + length its) h made others) events
      runs.1))
      (asked ∙ ap (λ (h : Histories). by_slot slots (λ slot. made_of.opens slot (behind_all h made others slot))) events)
      ends.1

-- a lawful report of whole pieces, joined
yes_joined : (setup : Setup) (texts : List Text) → AreWhole [] (pieces_of texts)
    → Confirmed setup (joined (pieces_of texts)) → (text : List ℕ) × SaysYes setup texts text
yes_joined setup texts whole so =
    let pieces = pieces_of texts in
    let slices = slices_of setup in
    let trace = flat_map trace_texts pieces in
    let report = flat_map report_texts pieces in
    let all = said_all [] pieces in
    let said : trace_said (joined pieces) ≡ all =
    ap (trace_from 1 0) (trace_before trace report (no_markers pieces)) in
    let are : AreEntries report so.entries =
    subst (λ t. AreEntries t so.entries) (report_behind trace report (no_markers pieces)) so.are in
    let same : entries_left [] pieces whole ≡ so.entries =
    one_list report (entries_left [] pieces whole) so.entries (are_left [] pieces whole) are in
    let lawful : IsLawful setup (length (book_of all.lines)) (made_left slices [] pieces) so.entries =
    subst (λ m. IsLawful setup (length (book_of all.lines)) m so.entries)
    (made_there slices [] [] pieces cut_nothing whole)
    (subst (λ (input : Input). IsLawful setup (length (book_of input.lines)) (epochs_told slices input) so.entries) said
    so.lawful) in
    yes_left setup (length (book_of all.lines)) texts [] none_behind [] pieces whole lawful.0.epochs lawful.0.opens refl
    along.begins refl lawful.1.epochs lawful.1.opens (same ∙ lawful.2)

-- ---- lawful pieces are whole

module _ (setup : Setup) (known : Behind) (last : Bool) (piece : List Text) (entries : List Entry)
    (lawful : IsLawfulNext setup known last piece entries) where
  abbrev here : Piece
  here = piece_of setup known last piece entries

  answers_all : length (answers_in here) ≡ length here.made
  answers_all = as_many (here.lines + 1) here.made (answers_in here) (lawful.holds of.Answers)

  led_lines : (led_by here).lines ≡ answers_in here
  led_lines = entries_told (here.lines + 1) here.made (answers_in here) (lawful.holds of.Answers)

  count_lines : length (line_entries entries)
      ≡ length (said_in known piece).lines + length (stop_noted (said_in known piece).stop)
  count_lines =
      ap (λ es. length (line_entries es)) (lawful.holds of.Order)
      ∙ ap length (lines_of_epoch (led_by here) (opens_asked here) ∙ led_lines)
      ∙ answers_all
      ∙ length-append (meant_from (slices_of setup) known.lines (said_in known piece).lines)
      (stop_noted (said_in known piece).stop)
      ∙ ap (λ n. n + length (stop_noted (said_in known piece).stop))
      (length-meant_from (slices_of setup) known.lines (said_in known piece).lines)

  begins_here : (made : List Meaning) → here.made ≡ made → BeginsOwn (piece_entries here)
  begins_here [] is =
      let none : told_in here ≡ [] = ap (λ m. lines_told m (answers_in here)) is in
      let event_none : (slot : ℕ) → events_in (here.before slot) (told_in here) slot ≡ [] =
      λ slot. ap (λ l. events_in (here.before slot) l slot) none in
      let effects_none : (led_by here).effects ≡ [] =
      by_none here.slots
      (λ slot. made_of.effects slot (here.before slot) (events_in (here.before slot) (told_in here) slot))
      (λ slot. ap (made_of.effects slot (here.before slot)) (event_none slot)) in
      let rows_none : (led_by here).rows ≡ [] =
      by_none here.slots
      (λ slot. made_of.rows slot (here.before slot) (events_in (here.before slot) (told_in here) slot))
      (λ slot. ap (made_of.rows slot (here.before slot)) (event_none slot) ∙ no_rows slot (here.before slot)) in
      let alone : piece_entries here ≡ map entry.Charge (opens_asked here) = λ i. epoch_entries (record {
        lines = map (λ (t : LineTold). t.entry) (none i);
        effects = effects_none i;
        rows = rows_none i;
      }) ++ map entry.Charge (opens_asked here) in
      subst BeginsOwn (sym alone)
      (begins_opens (opens_asked here) (asked_opens last here.slots (events_behind here)).0)
  begins_here (now ∷ later) is =
      let tail = map entry.Effect (led_by here).effects ++ map entry.Charge (led_by here).rows in
      subst BeginsOwn (sym (append_assoc (map entry.Line (led_by here).lines) tail
      (map entry.Charge (opens_asked here))))
      (begins_lines (led_by here).lines (tail ++ map entry.Charge (opens_asked here))
      (omega (arith, ap length led_lines, answers_all, ap length is)))

  whole_here : IsWhole known.lines last piece
  whole_here = record {
    entries = entries;
    are = lawful.are;
    one = lawful.one;
    as_many = count_lines;
    begins = subst BeginsOwn (sym (lawful.holds of.Order)) (begins_here here.made refl);
    opens = λ before. none_of (opens_told entries)
        ((lawful.holds of.Opens).as_many ∙ ap (λ b. length (asked_if b here.slots (events_behind here))) before);
  }

whole_from : (setup : Setup) (prefix : List (List Text)) (known : Behind) (said : List ℕ) (next : List Text)
    (later : List (List Text)) → AreLawfulSoFar setup prefix known said → AreWhole known.lines (next ∷ later)
    → AreWhole [] (prefix ++ next ∷ later)
whole_from setup prefix known said next later along.begins whole = whole
whole_from setup prefix known said next later (along.goes_on before held text piece entries so lawful) whole =
    subst (AreWhole []) (sym (append_assoc before (piece ∷ []) (next ∷ later)))
    (whole_from setup before held text piece (next ∷ later) so
    (whole_here setup held false piece entries lawful, whole))

pub yes_as_joined : YesAsJoined
yes_as_joined setup texts = (
  (λ (yes : (text : List ℕ) × SaysYes setup texts text).
      let it = yes.1 in (
        subst (AreWhole []) (sym it.parts) (whole_from setup it.prefix it.known it.said it.piece [] it.so
            (whole_here setup it.known true it.piece it.entries it.lawful)),
        subst (λ pieces. Confirmed setup (joined pieces)) (sym it.parts)
            (pieces_are_the_run setup it.prefix it.known it.said it.piece it.entries it.so it.lawful),
      )),
  (λ both. yes_joined setup texts both.0 both.1),
)

pub no_as_joined : NoAsJoined
no_as_joined why setup texts text refuted whole so =
    let said = yes_joined setup texts whole so in yes_or_no why setup texts said.0 text said.1 refuted
