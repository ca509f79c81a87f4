-- The end of a piece: what was heard of it is what is asked, and what is kept of a lawful one.
use Rattle.std.proofs.Common.{◌≡◌, ◌≢◌, ℕ, ◌+◌, ◌<◌, ◌≤◌, ◌^◌, ◌⊎◌, true, false, Bool, Option, None, Some, Result, Ok, Err, List, [], ◌∷◌, ◌++◌, length, bytes_eq, refl, sym, ap, subst, ◌∙◌, inl, inr, arith, append_assoc, append-nil, length-append}
use Rattle.std.specs.List.{All}
use Rattle.std.proofs.lemmas.List.{length-map}
use Rattle.std.proofs.lemmas.List.Elements.{All-append, All-cons, All-nil}
use Rattle.pc_outside.specs.Texts.{Text}
use Rattle.trace_lines.specs.Epochs.{IsEpoch, NoneEnds}
use Rattle.trace_lines.specs.Input.{Input, Stop, after_lines, bad, ended, line_then}
use Rattle.trace_lines.specs.Line.{Line}
use Rattle.trace_lines.specs.Meaning.{line_meaning}
use Rattle.trace_lines.specs.declared.bad.LineBad.{LineBad}
use Rattle.demux.specs.Trace.{Meaning, book_of}
use Rattle.report_lines.specs.declared.entry.Entry.{Entry}
use Rattle.lawful_run.specs.LinesTold.{LineTold}
use Rattle.lawful_run.specs.Setup.{Setup, slices_of}
use Rattle.lawful_run.specs.Trace.{meant_from, stop_noted}
use Rattle.lawful_run.proofs.CutLines.{length-meant_from}
use Rattle.at_rest.specs.Coming.{AreLater, latest_behind}
use Rattle.at_rest.specs.Meant.{Stand}
use Rattle.at_rest.specs.Rest.{AreAtRest}
use Rattle.at_rest.proofs.Resting.{goes_on}
use Rattle.subscriber.specs.Standing.{SubscriberState}
use Rattle.audit_core.specs.Along.{Behind, HasTwoEpochs, IsLawfulNext, IsMisfit, IsOneEpoch, RefutesNext, StopsEarly, behind_next, line_behind, piece_of, said_in, turn}
use Rattle.audit_core.specs.Following.{EndsAs, HearsPiece, IsFit, IsFresh, IsLetGo, KeepsRest, MisfitOrNone, SaysLines, SaysMore, SaysPart, TakesLines, TakesPiece}
use Rattle.audit_core.specs.Heard.{SaysReport, with_report}
use Rattle.audit_core.specs.Holding.{AreKnown, IsKnown}
use Rattle.audit_core.specs.Judged.{ComeLater}
use Rattle.slot_execution.specs.Kept.{meaning_in}
use Rattle.audit_core.specs.Kept.{ArePlaced, meanings_in}
use Rattle.audit_core.specs.Matched.{entries_stood}
use Rattle.audit_core.specs.Pieces.{ComesBehind, FoundIn, IsLawfulPiece, Piece, RestsSo, events_behind, told_in}
use Rattle.audit_core.specs.Played.{latest_of, moment_behind}
use Rattle.audit_core.specs.Ranks.{number_of}
use Rattle.audit_core.specs.Refuting.{at_report}
use Rattle.audit_core.specs.Said.{AreEntries, EndsAtNone, marker, report_texts, trace_from, trace_texts}
use Rattle.audit_core.specs.Setups.{IsSetup, input_with, setup_of, stop_of}
use Rattle.audit_core.specs.Telling.{dash}
use Rattle.audit_core.specs.declared.pieces.Pieces.{Pieces}
use Rattle.audit_core.specs.declared.sentence.Refutation.{Refutation}
use Rattle.audit_core.specs.declared.setup.BadAt.{BadAt}
use Rattle.audit_core.specs.declared.telling.Break.{Break}
use Rattle.audit_core.proofs.CaseLemmas.{late_from, noted_quiet, slices_are}
use Rattle.audit_core.proofs.KnownLemmas.{lines_known}
use Rattle.audit_core.proofs.PieceTaken.{count_kept, says_whole}
use Rattle.audit_core.proofs.SaidLemmas.{all_trace, no_report, report_behind, trace_before}
use Rattle.audit_core.proofs.TakenLemmas.{known_noted}

module _ (own : Pieces) (known : Behind) (piece : List Text) (hears : HearsPiece own known piece) where
  pub report_is : report_texts piece ≡ hears.report
  report_is = go own.in_report refl
    where
      go : (opened : Bool) → opened ≡ own.in_report → report_texts piece ≡ hears.report
      go false is =
          ap report_texts (hears.parts ∙ ap (λ b. hears.trace ++ with_report b hears.report) (sym is)
          ∙ append-nil hears.trace)
          ∙ no_report hears.trace hears.before ∙ sym (hears.unopened (sym is))
      go true is =
          ap report_texts (hears.parts ∙ ap (λ b. hears.trace ++ with_report b hears.report) (sym is))
          ∙ report_behind hears.trace hears.report hears.before

  trace_is : trace_texts piece ≡ hears.trace
  trace_is = go own.in_report refl
    where
      go : (opened : Bool) → opened ≡ own.in_report → trace_texts piece ≡ hears.trace
      go false is =
          ap trace_texts (hears.parts ∙ ap (λ b. hears.trace ++ with_report b hears.report) (sym is)
          ∙ append-nil hears.trace)
          ∙ all_trace hears.trace hears.before
      go true is =
          ap trace_texts (hears.parts ∙ ap (λ b. hears.trace ++ with_report b hears.report) (sym is))
          ∙ trace_before hears.trace hears.report hears.before

  said_from : said_in known piece ≡ trace_from (length known.lines + 1) (latest_behind 0 known.lines) hears.trace
  said_from = ap (trace_from (length known.lines + 1) (latest_behind 0 known.lines)) trace_is

  its_lines : own.over ≡ false
      → SaysLines known hears.takes.lines hears.takes.stop own.least hears.trace
  its_lines within =
      subst (λ b. SaysPart b known hears.takes.lines hears.takes.stop own.least hears.trace) within hears.takes.says

  pub said_is : own.over ≡ false → said_in known piece ≡ input_with hears.takes.lines hears.takes.stop
  said_is within =
      said_from ∙ says_whole known hears.takes.lines hears.takes.stop own.least hears.trace (its_lines within)

  -- the lines of its report
  pub entries_are : own.none ≡ false → AreEntries (report_texts piece) (entries_stood own.entries.items)
  entries_are all =
      subst (λ t. AreEntries t (entries_stood own.entries.items)) (sym report_is)
      (subst (λ none. SaysReport none hears.report (entries_stood own.entries.items)) all hears.reports)

  pub ends_none : own.none ≡ true → EndsAtNone (report_texts piece) (entries_stood own.entries.items)
  ends_none none_ =
      subst (λ t. EndsAtNone t (entries_stood own.entries.items)) (sym report_is)
      (subst (λ none. SaysReport none hears.report (entries_stood own.entries.items)) none_ hears.reports)

  pub none_refutes : (setup : Setup) (last : Bool) (number : ℕ) (told : Break) → own.none ≡ true
      → number ≡ length own.entries.items + 1 → told ≡ at_report number
      → RefutesNext setup known last piece 0 told
  none_refutes setup last number told none_ number_is is =
      let many : length (entries_stood own.entries.items) ≡ length own.entries.items =
      length-map own.entries.items (λ s. s.entry) in
      let count : number ≡ length (entries_stood own.entries.items) + 1 = omega (arith, number_is, many) in
      inl (
        refl,
        record {
          entries = entries_stood own.entries.items;
          ends = ends_none none_;
          is = is ∙ ap at_report count;
        },
      )

  -- a line behind the end of the epoch
  rest_more : (n least : ℕ) (text : Text) (later : List Text)
      → ((trace_from n least (text ∷ later)).lines ≢ []) ⊎ ((trace_from n least (text ∷ later)).stop ≢ ended)
  rest_more n least text later = by (line_meaning least n text)
    where
      by : (means : Result Line LineBad)
          → ((line_then n means (λ l. trace_from (n + 1) l.moment later)).lines ≢ [])
          ⊎ ((line_then n means (λ l. trace_from (n + 1) l.moment later)).stop ≢ ended)
      by (Ok line) = inl (λ same. cc)
      by (Err why) = inr (λ same. cc)

  pub two_refute : (setup : Setup) (last : Bool) (told : Break) → own.none ≡ false → own.over ≡ true
      → told ≡ line_behind (own.lines + length own.kept.items + 1) dash marker
      → RefutesNext setup known last piece 1 told
  two_refute setup last told all over is =
      let taken = hears.takes in
      let ends : own.ended ≡ true = taken.more over in
      let stop : taken.stop ≡ None = taken.going ends in
      let more : SaysMore known taken.lines own.least hears.trace =
      subst (λ b. SaysPart b known taken.lines taken.stop own.least hears.trace) over taken.says in
      let rest = trace_from (length known.lines + length taken.lines + 1) own.least (more.next ∷ more.later) in
      let said : said_in known piece ≡ after_lines taken.lines rest =
      said_from ∙ ap (trace_from (length known.lines + 1) (latest_behind 0 known.lines)) more.parts
      ∙ more.says (more.next ∷ more.later) in
      let count : length own.kept.items ≡ length taken.lines =
      count_kept own known taken.lines None (subst (TakesLines own known taken.lines) stop taken.takes)
      ∙ (omega arith) in
      let place : own.lines + length own.kept.items + 1 ≡ length known.lines + length taken.lines + 1 =
      omega (arith, count, hears.lines) in
      let two : HasTwoEpochs known (said_in known piece) told = record {
        first = taken.lines;
        later = rest.lines;
        parts = ap (λ (input : Input). input.lines) said;
        whole = subst (λ b. EndsAs b taken.lines) ends taken.takes.ends;
        more = by_rest (rest_more (length known.lines + length taken.lines + 1) own.least more.next more.later)
            (ap (λ (input : Input). input.stop) said);
        is = is ∙ ap (λ n. line_behind n dash marker) place;
      } in
      inr (inl (record {
        entries = entries_stood own.entries.items;
        are = entries_are all;
        misfit = by_last last two;
        number = refl;
      }))
    where
      by_rest : {lines : List Line} {stop other : Stop} → (lines ≢ []) ⊎ (other ≢ ended) → stop ≡ other
          → (lines ≢ []) ⊎ (stop ≢ ended)
      by_rest (inl some) same = inl some
      by_rest (inr not_) same = inr (λ is. not_ (sym same ∙ is))

      by_last : (last : Bool) → HasTwoEpochs known (said_in known piece) told
          → IsMisfit last known (said_in known piece) told
      by_last false two = inl two
      by_last true two = two

  -- `TRACE` before the epoch ends
  pub early_refutes : (setup : Setup) (told : Break) → own.none ≡ false → own.over ≡ false → own.ended ≡ false
      → told ≡ line_behind (own.lines + length own.kept.items + 1) turn dash
      → RefutesNext setup known false piece 1 told
  early_refutes setup told all within open_ is =
      let taken = hears.takes in
      let said = said_is within in
      let count = count_kept own known taken.lines taken.stop taken.takes in
      let place : own.lines + length own.kept.items + 1
      ≡ length known.lines + length taken.lines + length (stop_noted (stop_of taken.stop)) + 1 =
      omega (arith, count, hears.lines) in
      inr (inl (record {
        entries = entries_stood own.entries.items;
        are = entries_are all;
        misfit = inr (record {
          open_ = subst (λ (input : Input). NoneEnds [] input.lines) (sym said)
              (subst (λ b. EndsAs b taken.lines) open_ taken.takes.ends);
          is = is ∙ ap (λ n. line_behind n turn dash) place
              ∙ ap (λ (input : Input). line_behind (length known.lines + length input.lines
              + length (stop_noted input.stop) + 1) turn dash) (sym said);
        });
        number = refl;
      }))

  -- or they are those of one epoch
  pub fits_so : (last : Bool) → own.none ≡ false → own.over ≡ false → (last ≡ false → own.ended ≡ true)
      → IsFit known last piece own
  fits_so last all within ends = record {
    are = entries_are all;
    one = by_last last ends;
    over = within;
  }
    where
      said : said_in known piece ≡ input_with hears.takes.lines hears.takes.stop
      said = said_is within

      whole : own.ended ≡ true
          → IsEpoch (said_in known piece).lines × ((said_in known piece).stop ≡ ended)
      whole is = (
        subst (λ (input : Input). IsEpoch input.lines) (sym said)
            (subst (λ b. EndsAs b hears.takes.lines) is hears.takes.takes.ends),
        ap (λ (input : Input). input.stop) said ∙ ap stop_of (hears.takes.going is),
      )

      by_ended : (held : Bool) → own.ended ≡ held → IsOneEpoch true (said_in known piece)
      by_ended true is = inl (whole is)
      by_ended false is =
          inr (subst (λ (input : Input). NoneEnds [] input.lines) (sym said)
          (subst (λ b. EndsAs b hears.takes.lines) is hears.takes.takes.ends))

      by_last : (last : Bool) → (last ≡ false → own.ended ≡ true) → IsOneEpoch last (said_in known piece)
      by_last false is = whole (is refl)
      by_last true is = by_ended own.ended refl

  -- it is what is asked
  module _ (last : Bool) (fit : IsFit known last piece own) where
    abbrev pub asked : Piece
    asked = piece_of (setup_of own.setup) known last piece (entries_stood own.entries.items)

    pub made_is : meanings_in own.octets.items own.kept.items ≡ asked.made
    made_is =
        hears.takes.takes.mean
        ∙ ap (λ n. meant_from n known.lines hears.takes.lines ++ stop_noted (stop_of hears.takes.stop))
        (sym (slices_are own.setup hears.setup_is))
        ∙ ap (λ (input : Input). meant_from (slices_of (setup_of own.setup)) known.lines input.lines
        ++ stop_noted input.stop) (sym (said_is fit.over))

    pub slots_are : length own.subscribers.items ≡ asked.slots
    slots_are =
        hears.takes.takes.many ∙ ap length hears.takes.takes.stand.book_is
        ∙ ap (λ (input : Input). length (book_of (known.lines ++ input.lines))) (sym (said_is fit.over))

    pub late_is : ComeLater (latest_behind 0 known.lines) asked.made
    late_is =
        subst (λ (input : Input). ComeLater (latest_behind 0 known.lines)
        (meant_from (slices_of (setup_of own.setup)) known.lines input.lines ++ stop_noted input.stop))
        (sym (said_is fit.over))
        (late_from (slices_of (setup_of own.setup)) (latest_behind 0 known.lines) known.lines hears.takes.lines
        (stop_noted (stop_of hears.takes.stop)) (noted_quiet hears.takes.stop) hears.takes.takes.later)

    known_is : AreKnown asked.slots (asked.made ∷ [])
    known_is =
        let said = said_is fit.over in
        All-cons (All (IsKnown asked.slots)) asked.made []
        (All-append (IsKnown asked.slots)
        (meant_from (slices_of (setup_of own.setup)) known.lines (said_in known piece).lines)
        (stop_noted (said_in known piece).stop)
        (lines_known (slices_of (setup_of own.setup)) asked.slots known.lines (said_in known piece).lines (omega arith))
        (subst (λ (input : Input). All (IsKnown asked.slots) (stop_noted input.stop)) (sym said)
        (known_noted asked.slots hears.takes.stop)))
        (All-nil (All (IsKnown asked.slots)))

    pub count_made : length own.kept.items ≡ length asked.made
    count_made = sym (length-map own.kept.items (meaning_in own.octets.items)) ∙ ap length made_is

    pub comes_so : ComesBehind asked own.setup own.octets.items own.kept.items own.entries.items own.subscribers.items
    comes_so = record {
      setup_is = refl;
      means = made_is;
      placed = hears.takes.takes.placed;
      entries_are = refl;
      known = known_is;
      many = slots_are;
      standing = hears.takes.takes.standing;
      slices = own.setup.slices;
      latest = latest_behind 0 known.lines;
      rest = hears.takes.takes.rest;
      late = late_is;
      few = omega (arith, hears.few, hears.lines, count_made);
    }

    pub rest_is : AreAtRest own.setup.slices asked.lines (latest_behind 0 known.lines) own.subscribers.items
    rest_is = hears.takes.takes.rest

    pub lawful_so : IsLawfulPiece asked
        → IsLawfulNext (setup_of own.setup) known last piece (entries_stood own.entries.items)
    lawful_so holds = record { are = fit.are; one = fit.one; holds = holds }

    pub refutes_so : (found : Refutation) → FoundIn asked (Some found)
        → RefutesNext (setup_of own.setup) known last piece (number_of found.sentence) found.place
    refutes_so found breaks =
        inr (inr (record {
          entries = entries_stood own.entries.items;
          are = fit.are;
          one = fit.one;
          found = found;
          breaks = breaks;
          number = refl;
          is = refl;
        }))
