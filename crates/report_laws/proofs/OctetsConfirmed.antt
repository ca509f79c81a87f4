-- The same of the octets of a trace and of the text of its report.
use Rattle.std.proofs.Common.{◌≡◌, ◌≢◌, ℕ, ◌+◌, ◌<◌, ◌≤◌, ◌^◌, Bool, true, false, nat_lt, nat_le, if◌then◌else◌, List, [], ◌∷◌, ◌++◌, map, length, length-append, take, All, refl, sym, ap, ◌∙◌, subst, arith, append_assoc, append-nil, Result, Ok, Err, None, bytes_eq}
use Rattle.std.specs.List.{flat_map, join_with_byte, slice_split}
use Rattle.std.proofs.lemmas.Bool.{leb-false}
use Rattle.std.proofs.lemmas.List.{length-take, take_all}
use Rattle.std.proofs.lemmas.List.Elements.{All-cons, All-from_recursion, All-head, All-nil, All-tail}
use Rattle.std.proofs.lemmas.List.Splits.{length-slice_split, slice_split_at}
use Rattle.std.proofs.lemmas.Slice.Eq.{bytes_eq-Decides}
use Rattle.demux.specs.Trace.{book_of}
use Rattle.demux.proofs.BookBound.{book_most}
use Rattle.demux.proofs.NotesPrint.{word_prints}
use Rattle.pc_outside.specs.Limits.{input_max, line_max, newline}
use Rattle.report_lines.specs.Ranges.{IsEntry}
use Rattle.report_lines.specs.Records.{IsPrintable}
use Rattle.report_lines.specs.Text.{entry_text, shown}
use Rattle.report_lines.specs.declared.entry.Entry.{Entry}
use Rattle.report_lines.proofs.TextLemmas.{entry_prints}
use Rattle.text_fields.specs.Fields.{AllLack, is_empty, pieces}
use Rattle.text_fields.proofs.FieldLemmas.{joined-pieces, pieces_lack}
use Rattle.trace_lines.specs.Input.{Input, after_lines, big, ended, input_of, input_within, line_then, long, pieces_meaning, stopped}
use Rattle.trace_lines.specs.Line.{Line}
use Rattle.trace_lines.specs.Meaning.{line_meaning}
use Rattle.trace_lines.specs.declared.bad.LineBad.{LineBad}
use Rattle.pc_outside.proofs.Pieces.{all_differ, ends_line}
use Rattle.lawful_run.specs.Report.{entries_of, texts_of as texts_told}
use Rattle.lawful_run.specs.Setup.{Setup, slices_of}
use Rattle.lawful_run.specs.Trace.{IsReport, epochs_told}
use Rattle.lawful_run.proofs.InRange.{octets_in_range, told_few}
use Rattle.audit_core.specs.Findings.{Finds}
use Rattle.audit_core.specs.Said.{marker, trace_from}
use Rattle.pc_outside.specs.Texts as said
use Rattle.pc_outside.specs.Texts.{Text, pieces_texts, texts_of, texts_within}
use Rattle.audit_core.proofs.OneFinding.{one_finding}
use Rattle.audit_core.proofs.SaidLemmas.{NoMarker, some_text}
use Rattle.report_laws.specs.Confirming.{IsOwnReport, IsOwnText, OwnTextIsConfirmed, OwnTextIsNeverRefuted, audited, audited_octets, lines_of}
use Rattle.report_laws.specs.Ranges.{EntriesAreInRange}
use Rattle.report_laws.specs.Shown.{report_shown}
use Rattle.report_laws.proofs.Confirmed.{own_confirmed, texts_shown}
use Rattle.report_laws.proofs.EntriesIn.{entries_in}
use Rattle.report_laws.proofs.OneThread.{entries_shown}

-- lines, each with its newline
abbrev octets_of : List Text → List ℕ
octets_of texts = flat_map (λ (text : Text). text ++ newline ∷ []) texts

split_lines : (texts : List Text) → AllLack newline texts
    → slice_split ends_line (octets_of texts) ≡ texts ++ [] ∷ []
split_lines [] lack = refl
split_lines (text ∷ texts) lack =
    ap (slice_split ends_line) (append_assoc text (newline ∷ []) (octets_of texts))
    ∙ slice_split_at ends_line text newline (octets_of texts) (all_differ text lack.0) refl
    ∙ ap (λ rest. text ∷ rest) (split_lines texts lack.1)

octets-append : (one other : List Text) → octets_of (one ++ other) ≡ octets_of one ++ octets_of other
octets-append [] other = refl
octets-append (text ∷ one) other =
    ap (λ rest. (text ++ newline ∷ []) ++ rest) (octets-append one other)
    ∙ sym (append_assoc (text ++ newline ∷ []) (octets_of one) (octets_of other))

joined_octets : (first : Text) (texts : List Text)
    → octets_of (first ∷ texts) ≡ join_with_byte newline (first ∷ texts) ++ newline ∷ []
joined_octets first [] = append-nil (first ++ newline ∷ [])
joined_octets first (next ∷ texts) =
    ap (λ rest. (first ++ newline ∷ []) ++ rest) (joined_octets next texts)
    ∙ append_assoc first (newline ∷ []) (join_with_byte newline (next ∷ texts) ++ newline ∷ [])
    ∙ sym (append_assoc first (newline ∷ join_with_byte newline (next ∷ texts)) (newline ∷ []))

some_joined : (texts : List Text) → 0 < length texts → octets_of texts ≡ join_with_byte newline texts ++ newline ∷ []
some_joined [] some = absurd (omega (arith, some))
some_joined (first ∷ texts) some = joined_octets first texts

-- octets that end with a newline are such lines
cut_lines : (octets prefix : List ℕ) → octets ≡ prefix ++ newline ∷ [] → octets ≡ octets_of (pieces newline prefix)
cut_lines octets prefix whole =
    whole ∙ ap (λ text. text ++ newline ∷ []) (sym (joined-pieces newline prefix))
    ∙ sym (some_joined (pieces newline prefix) (omega (arith, length-slice_split ends_line prefix)))

-- a trace that is read whole
piece_first : (full : Bool) (number least : ℕ) (text : Text) (rest : List Text) → 0 < length rest
    → pieces_meaning full number least (text ∷ rest)
    ≡ (if nat_lt line_max (length text) then stopped (long number)
    else line_then number (line_meaning least number text) (λ l. pieces_meaning full (number + 1) l.moment rest))
piece_first full number least text [] some = absurd (omega (arith, some))
piece_first full number least text (next ∷ rest) some = refl

some_behind : (texts : List Text) → 0 < length (texts ++ [] ∷ [])
some_behind texts = omega (arith, length-append texts ([] ∷ []))

by_reading : (number : ℕ) (read : Result Line LineBad) (one other : Line → Input)
    → ((line : Line) → (one line).stop ≡ ended → one line ≡ other line)
    → (line_then number read one).stop ≡ ended → line_then number read one ≡ line_then number read other
by_reading number (Ok line) one other same stop = ap (after_lines (line ∷ [])) (same line stop)
by_reading number (Err why) one other same stop = absurd cc

by_length : (test : Bool) (number : ℕ) (read : Result Line LineBad) (one other : Line → Input)
    → ((line : Line) → (one line).stop ≡ ended → one line ≡ other line)
    → (if test then stopped (long number) else line_then number read one).stop ≡ ended
    → (if test then stopped (long number) else line_then number read one) ≡ line_then number read other
by_length true number read one other same stop = absurd cc
by_length false number read one other same stop = by_reading number read one other same stop

pieces_read : (number least : ℕ) (texts : List Text)
    → (pieces_meaning false number least (texts ++ [] ∷ [])).stop ≡ ended
    → pieces_meaning false number least (texts ++ [] ∷ []) ≡ trace_from number least texts
pieces_read number least [] stop = refl
pieces_read number least (text ∷ texts) stop =
    let rest : List Text = texts ++ [] ∷ [] in
    let first = piece_first false number least text rest (some_behind texts) in
    first ∙ by_length (nat_lt line_max (length text)) number (line_meaning least number text)
    (λ l. pieces_meaning false (number + 1) l.moment rest) (λ l. trace_from (number + 1) l.moment texts)
    (λ line ends. pieces_read (number + 1) line.moment texts ends)
    (subst (λ (input : Input). input.stop ≡ ended) first stop)

-- one that isn't read whole doesn't end
full_reading : (number : ℕ) (read : Result Line LineBad) (behind : Line → Input)
    → ((line : Line) → (behind line).stop ≡ ended → ⊥) → (line_then number read behind).stop ≡ ended → ⊥
full_reading number (Ok line) behind never stop = never line stop
full_reading number (Err why) behind never stop = cc

full_length : (test : Bool) (number : ℕ) (read : Result Line LineBad) (behind : Line → Input)
    → ((line : Line) → (behind line).stop ≡ ended → ⊥)
    → (if test then stopped (long number) else line_then number read behind).stop ≡ ended → ⊥
full_length true number read behind never stop = cc
full_length false number read behind never stop = full_reading number read behind never stop

full_rest : (test : Bool) (number : ℕ) → (if test then stopped (long number) else stopped big).stop ≡ ended → ⊥
full_rest true number stop = cc
full_rest false number stop = cc

never_full : (number least : ℕ) (first : Text) (rest : List Text)
    → (pieces_meaning true number least (first ∷ rest)).stop ≡ ended → ⊥
never_full number least first [] stop = full_rest (nat_lt line_max (length first)) number stop
never_full number least first (next ∷ rest) stop =
    full_length (nat_lt line_max (length first)) number (line_meaning least number first)
    (λ l. pieces_meaning true (number + 1) l.moment (next ∷ rest))
    (λ line ends. never_full (number + 1) line.moment next rest ends) stop

never_full_some : (cut : List Text) → 0 < length cut → (pieces_meaning true 1 0 cut).stop ≡ ended → ⊥
never_full_some [] some stop = omega (arith, some)
never_full_some (first ∷ rest) some stop = never_full 1 0 first rest stop

record ReadWhole (octets : List ℕ) (texts : List Text) : Type 0 where
  same : input_of octets ≡ trace_from 1 0 texts
  within : length octets < 2 ^ 40

input_read : (octets : List ℕ) (texts : List Text) → AllLack newline texts → octets ≡ octets_of texts
    → (input_of octets).stop ≡ ended → ReadWhole octets texts
unfolding input_within
input_read octets texts lack is stop = by_full (nat_le input_max (length octets)) refl
  where
    cut : List Text
    cut = slice_split ends_line (take input_max octets)

    as_full : (full : Bool) → nat_le input_max (length octets) ≡ full → input_of octets ≡ pieces_meaning full 1 0 cut
    as_full full same = ap (λ b. pieces_meaning b 1 0 cut) same

    by_full : (full : Bool) → nat_le input_max (length octets) ≡ full → ReadWhole octets texts
    by_full true same =
        absurd (never_full_some cut (omega (arith, length-slice_split ends_line (take input_max octets)))
        (subst (λ (input : Input). input.stop ≡ ended) (as_full true same) stop))
    by_full false same =
        let within : length octets < 2 ^ 40 = leb-false input_max (length octets) same in
        let read : input_of octets ≡ pieces_meaning false 1 0 (texts ++ [] ∷ []) =
        as_full false same
        ∙ ap (λ o. pieces_meaning false 1 0 (slice_split ends_line o)) (take_all input_max octets (omega (arith, within)))
        ∙ ap (λ o. pieces_meaning false 1 0 (slice_split ends_line o)) is
        ∙ ap (pieces_meaning false 1 0) (split_lines texts lack) in
        record {
          same = read ∙ pieces_read 1 0 texts (subst (λ (input : Input). input.stop ≡ ended) read stop);
          within = within;
        }

-- the lines that an audit reads whole
lines_read : (texts : List Text) → (pieces_texts false (texts ++ [] ∷ [])).stop ≡ said.ended
    → (pieces_texts false (texts ++ [] ∷ [])).lines ≡ texts
lines_read [] stop = refl
lines_read (text ∷ texts) stop =
    let rest : List Text = texts ++ [] ∷ [] in
    let first = text_first false text rest (some_behind texts) in
    ap (λ (read : said.Texts). read.lines) first
    ∙ by_text (nat_lt line_max (length text)) text (pieces_texts false rest) texts (λ ends. lines_read texts ends)
    (subst (λ (read : said.Texts). read.stop ≡ said.ended) first stop)
  where
    text_first : (full : Bool) (text : Text) (rest : List Text) → 0 < length rest
        → pieces_texts full (text ∷ rest)
        ≡ (if nat_lt line_max (length text) then said.stopped said.long
        else said.after_lines (text ∷ []) (pieces_texts full rest))
    text_first full text [] some = absurd (omega (arith, some))
    text_first full text (next ∷ rest) some = refl

    by_text : (test : Bool) (text : Text) (behind : said.Texts) (texts : List Text)
        → (behind.stop ≡ said.ended → behind.lines ≡ texts)
        → (if test then said.stopped said.long else said.after_lines (text ∷ []) behind).stop ≡ said.ended
        → (if test then said.stopped said.long else said.after_lines (text ∷ []) behind).lines ≡ text ∷ texts
    by_text true text behind texts same stop = absurd cc
    by_text false text behind texts same stop = ap (λ lines. text ∷ lines) (same stop)

full_last : (test : Bool) → (if test then said.stopped said.long else said.stopped said.big).stop ≡ said.ended → ⊥
full_last true stop = cc
full_last false stop = cc

full_text : (test : Bool) (text : Text) (behind : said.Texts) → (behind.stop ≡ said.ended → ⊥)
    → (if test then said.stopped said.long else said.after_lines (text ∷ []) behind).stop ≡ said.ended → ⊥
full_text true text behind never stop = cc
full_text false text behind never stop = never stop

never_full_texts : (first : Text) (rest : List Text) → (pieces_texts true (first ∷ rest)).stop ≡ said.ended → ⊥
never_full_texts first [] stop = full_last (nat_lt line_max (length first)) stop
never_full_texts first (next ∷ rest) stop =
    full_text (nat_lt line_max (length first)) first (pieces_texts true (next ∷ rest))
    (λ ends. never_full_texts next rest ends) stop

never_some_texts : (cut : List Text) → 0 < length cut → (pieces_texts true cut).stop ≡ said.ended → ⊥
never_some_texts [] some stop = omega (arith, some)
never_some_texts (first ∷ rest) some stop = never_full_texts first rest stop

texts_read : (octets : List ℕ) (texts : List Text) → AllLack newline texts → octets ≡ octets_of texts
    → (texts_of octets).stop ≡ said.ended → (texts_of octets).lines ≡ texts
unfolding texts_within
texts_read octets texts lack is stop = by_full (nat_le input_max (length octets)) refl
  where
    cut : List Text
    cut = slice_split ends_line (take input_max octets)

    as_full : (full : Bool) → nat_le input_max (length octets) ≡ full → texts_of octets ≡ pieces_texts full cut
    as_full full same = ap (λ b. pieces_texts b cut) same

    by_full : (full : Bool) → nat_le input_max (length octets) ≡ full → (texts_of octets).lines ≡ texts
    by_full true same =
        absurd (never_some_texts cut (omega (arith, length-slice_split ends_line (take input_max octets)))
        (subst (λ (read : said.Texts). read.stop ≡ said.ended) (as_full true same) stop))
    by_full false same =
        let within : length octets < 2 ^ 40 = leb-false input_max (length octets) same in
        let read : texts_of octets ≡ pieces_texts false (texts ++ [] ∷ []) =
        as_full false same
        ∙ ap (λ o. pieces_texts false (slice_split ends_line o)) (take_all input_max octets (omega (arith, within)))
        ∙ ap (λ o. pieces_texts false (slice_split ends_line o)) is
        ∙ ap (pieces_texts false) (split_lines texts lack) in
        ap (λ (read : said.Texts). read.lines) read
        ∙ lines_read texts (subst (λ (read : said.Texts). read.stop ≡ said.ended) read stop)

-- none of the lines of a whole trace is the one between it and a report
no_line : (least number : ℕ) (line : Line) → line_meaning least number marker ≡ Ok line → ⊥
no_line least number line means = cc

then_ends : (number : ℕ) (read : Result Line LineBad) (behind : Line → Input)
    → (line_then number read behind).stop ≡ ended → (line : Line) × (read ≡ Ok line) × ((behind line).stop ≡ ended)
then_ends number (Ok line) behind stop = (line, refl, stop)
then_ends number (Err why) behind stop = absurd cc

other_by : (test : Bool) (least number : ℕ) (text : Text) (line : Line) → bytes_eq text marker ≡ test
    → line_meaning least number text ≡ Ok line → bytes_eq text marker ≡ false
other_by true least number text line same means =
    absurd (no_line least number line
    (subst (λ (t : Text). line_meaning least number t ≡ Ok line) ((bytes_eq-Decides text marker).0 same) means))
other_by false least number text line same means = same

record WholeTrace (texts : List Text) : Type 0 where
  unmarked : NoMarker texts
  few : length texts + length texts ≤ length (octets_of texts)

whole_trace : (number least : ℕ) (texts : List Text) → (trace_from number least texts).stop ≡ ended → WholeTrace texts
whole_trace number least [] stop =
    record { unmarked = All-nil (λ (text : Text). bytes_eq text marker ≡ false); few = omega arith }
whole_trace number least (text ∷ texts) stop =
    let read = then_ends number (line_meaning least number text)
    (λ line. trace_from (number + 1) line.moment texts) stop in
    let rest = whole_trace (number + 1) read.0.moment texts read.2 in
    record {
      unmarked = All-cons (λ (text : Text). bytes_eq text marker ≡ false) text texts
          (other_by (bytes_eq text marker) least number text read.0 refl read.1) rest.unmarked;
      few = omega (
        arith,
        rest.few,
        some_text least number text read.0 read.1,
        length-append (text ++ newline ∷ []) (octets_of texts),
        length-append text (newline ∷ []),
      );
    }

-- the lines of a report
told_text : (entries : List Entry)
    → octets_of (map (λ (told : Entry). entry_text (shown false told)) entries) ≡ texts_told false entries
told_text [] = refl
told_text (told ∷ entries) =
    ap (λ rest. (entry_text (shown false told) ++ newline ∷ []) ++ rest) (told_text entries)

print_lacks : (text : List ℕ) → All IsPrintable text → All (λ octet. octet ≢ newline) text
print_lacks text prints k d inside same = omega (arith, (prints k d inside).0, same)

entries_lack : (entries : List Entry) → All IsEntry entries → AllLack newline (map entry_text entries)
entries_lack [] are = tt
entries_lack (told ∷ entries) are = (
  print_lacks (entry_text told) (entry_prints told (All-head IsEntry told entries are)),
  entries_lack entries (All-tail IsEntry told entries are),
)

all_lack : (one other : List Text) → AllLack newline one → AllLack newline other → AllLack newline (one ++ other)
all_lack [] other first second = second
all_lack (text ∷ one) other first second = (first.0, all_lack one other first.1 second)

marker_lacks : All (λ octet. octet ≢ newline) marker
marker_lacks = print_lacks marker (All-from_recursion IsPrintable marker (word_prints marker refl))

-- an input has few lines, whatever its octets are
then_few : (least number : ℕ) (text : Text) (read : Result Line LineBad) (behind : Line → Input) (most : ℕ)
    → line_meaning least number text ≡ read
    → ((line : Line) → length (behind line).lines + length (behind line).lines ≤ most)
    → length (line_then number read behind).lines + length (line_then number read behind).lines ≤ length text + 1 + most
then_few least number text (Ok line) behind most means few =
    omega (arith, some_text least number text line means, few line)
then_few least number text (Err why) behind most means few = omega arith

test_few : (test : Bool) (one other : Input) (most : ℕ) → length one.lines + length one.lines ≤ most
    → length other.lines + length other.lines ≤ most
    → length (if test then one else other).lines + length (if test then one else other).lines ≤ most
test_few true one other most first second = first
test_few false one other most first second = second

pieces_few : (full : Bool) (number least : ℕ) (first : Text) (rest : List Text)
    → length (pieces_meaning full number least (first ∷ rest)).lines
    + length (pieces_meaning full number least (first ∷ rest)).lines ≤ length (octets_of (first ∷ rest))
pieces_few full number least first [] =
    let many = length-append (first ++ newline ∷ []) [] in
    let more = length-append first (newline ∷ []) in
    test_few (nat_lt line_max (length first)) (stopped (long number)) _ (length (octets_of (first ∷ []))) (omega arith)
    (test_few full (stopped big) _ (length (octets_of (first ∷ []))) (omega arith)
    (test_few (is_empty first) (stopped ended) _ (length (octets_of (first ∷ []))) (omega arith)
    (let few = then_few least number first (line_meaning least number first) (λ _. stopped ended) 0 refl
    (λ line. omega arith) in omega (arith, few, many, more))))
pieces_few full number least first (next ∷ rest) =
    let many = length-append (first ++ newline ∷ []) (octets_of (next ∷ rest)) in
    let more = length-append first (newline ∷ []) in
    test_few (nat_lt line_max (length first)) (stopped (long number)) _ (length (octets_of (first ∷ next ∷ rest)))
    (omega arith)
    (let few = then_few least number first (line_meaning least number first)
    (λ l. pieces_meaning full (number + 1) l.moment (next ∷ rest)) (length (octets_of (next ∷ rest))) refl
    (λ line. pieces_few full (number + 1) line.moment next rest) in omega (arith, few, many, more))

cut_few : (full : Bool) (octets : List ℕ) (cut : List Text) → pieces newline octets ≡ cut
    → length (pieces_meaning full 1 0 cut).lines + length (pieces_meaning full 1 0 cut).lines ≤ length octets + 1
cut_few full octets [] is = absurd (omega (arith, length-slice_split ends_line octets, ap (λ (c : List Text). length c) is))
cut_few full octets (first ∷ rest) is =
    omega (
      arith,
      pieces_few full 1 0 first rest,
      ap (λ (o : List ℕ). length o) (joined_octets first rest ∙ ap (λ c. join_with_byte newline c ++ newline ∷ []) (sym is)
          ∙ ap (λ text. text ++ newline ∷ []) (joined-pieces newline octets)),
      length-append octets (newline ∷ []),
    )

pub lines_few : (octets : List ℕ) → length (input_of octets).lines + 3 < 2 ^ 40
unfolding input_within
lines_few octets =
    let looked : List ℕ = take input_max octets in
    omega (
      arith,
      cut_few (nat_le input_max (length octets)) looked (pieces newline looked) refl,
      length-take input_max octets,
    )

pub entries_of_octets : EntriesAreInRange
entries_of_octets setup octets report lawful =
    entries_in setup (length (book_of (input_of octets).lines)) (epochs_told (slices_of setup) (input_of octets)) report
    lawful (octets_in_range (slices_of setup) octets)
    (omega (arith, told_few (slices_of setup) (input_of octets), lines_few octets)) (book_most (input_of octets).lines)

-- what an audit reads
own_lines : (under : Setup) (octets text : List ℕ) (own : IsOwnText under octets text)
    → (texts_of (audited_octets octets text)).stop ≡ said.ended
    → (texts_of (audited_octets octets text)).lines ≡ audited (pieces newline own.prefix) own.report
own_lines under octets text own stop =
    let trace : List Text = pieces newline own.prefix in
    let lines : List Text = lines_of own.report in
    let same : octets ≡ octets_of trace = cut_lines octets own.prefix own.whole in
    let report_lacks : AllLack newline lines =
    subst (AllLack newline) (sym (texts_shown (entries_of own.report) ∙ ap (map entry_text) (sym (entries_shown own.report))))
    (entries_lack (entries_of (report_shown own.report)) (entries_of_octets under octets own.report own.lawful)) in
    texts_read (audited_octets octets text) (trace ++ marker ∷ lines)
    (all_lack trace (marker ∷ lines) (pieces_lack newline own.prefix) (marker_lacks, report_lacks))
    (ap (λ o. o ++ (marker ++ newline ∷ text)) same
    ∙ ap (λ t. octets_of trace ++ (marker ++ newline ∷ t)) (own.written ∙ sym (told_text (entries_of own.report)))
    ∙ ap (λ rest. octets_of trace ++ rest) (sym (append_assoc marker (newline ∷ []) (octets_of lines)))
    ∙ sym (octets-append trace (marker ∷ lines))) stop

own_report : (under : Setup) (octets text : List ℕ) (own : IsOwnText under octets text)
    → IsOwnReport under (pieces newline own.prefix) own.report
own_report under octets text own =
    let trace : List Text = pieces newline own.prefix in
    let same : octets ≡ octets_of trace = cut_lines octets own.prefix own.whole in
    let read : ReadWhole octets trace = input_read octets trace (pieces_lack newline own.prefix) same own.ends in
    let whole : WholeTrace trace =
    whole_trace 1 0 trace (subst (λ (input : Input). input.stop ≡ ended) read.same own.ends) in
    record {
      unmarked = whole.unmarked;
      few = omega (arith, whole.few, read.within, ap (λ (o : List ℕ). length o) same);
      lawful = subst (λ (input : Input). IsReport under input own.report) read.same own.lawful;
    }

pub own_text_confirmed : OwnTextIsConfirmed
own_text_confirmed under setup octets text held own stop =
    subst (λ (lines : List Text). Finds setup lines None) (sym (own_lines under octets text own stop))
    (own_confirmed under setup (pieces newline own.prefix) own.report held (own_report under octets text own))

pub own_text_never_refuted : OwnTextIsNeverRefuted
own_text_never_refuted under setup octets text found held own stop finds =
    one_finding setup (texts_of (audited_octets octets text)).lines found None finds
    (own_text_confirmed under setup octets text held own stop)
