-- What is kept behind a lawful piece.
use Rattle.std.proofs.Common.{◌≡◌, ℕ, ◌+◌, ◌*◌, ◌-◌, if◌then◌else◌, ◌<◌, ◌≤◌, ◌^◌, true, false, Bool, Option, None, Some, List, [], ◌∷◌, ◌++◌, length, bytes_eq, get_or, map, slice_get, refl, sym, ap, subst, ◌∙◌, inl, inr, arith, append_assoc, append-nil, length-append}
use Rattle.std.proofs.lemmas.Bool.{cases_lt}
use Rattle.std.proofs.lemmas.List.Elements.{All-nil}
use Rattle.std.proofs.lemmas.Option.{slice_get-get_or, slice_get_past}
use Rattle.pc_outside.specs.Texts.{Text}
use Rattle.trace_lines.specs.Epochs.{IsEpoch}
use Rattle.trace_lines.specs.Input.{Input, Stop, bad, ended}
use Rattle.trace_lines.specs.Line.{Line}
use Rattle.demux.specs.Destinations.{start_slice}
use Rattle.demux.specs.Resolved.{decided}
use Rattle.demux.specs.Trace as trace
use Rattle.demux.specs.Trace.{Meaning, book_of, decisions, meaning}
use Rattle.demux.proofs.MomentLemmas.{moment_decided}
use Rattle.lawful_run.specs.LinesTold.{LineTold}
use Rattle.lawful_run.specs.Setup.{Setup, slices_of}
use Rattle.lawful_run.specs.Trace.{meant_from, settled_by, stop_noted}
use Rattle.lawful_run.proofs.CutLines.{length-meant_from}
use Rattle.at_rest.specs.Coming.{AreLater, latest_behind}
use Rattle.at_rest.specs.Meant.{AreStanding, HasItsMoment, Stand, bound_of}
use Rattle.at_rest.specs.Rest.{AreAtRest, destination_or}
use Rattle.at_rest.proofs.Resting.{goes_on}
use Rattle.subscriber.specs.Standing.{SubscriberState}
use Rattle.audit_core.specs.Along.{Behind, IsLawfulNext, IsOneEpoch, behind_next, piece_of, said_in}
use Rattle.audit_core.specs.Following.{EndsAs, HearsPiece, IsFit, IsFresh, IsLetGo, SaysPart, TakesLines, weight_of}
use Rattle.audit_core.specs.TraceTaken.{has_stopped}
use Rattle.audit_core.specs.Heard.{SaysReport, with_report}
use Rattle.audit_core.specs.Kept.{ArePlaced, meanings_in}
use Rattle.audit_core.specs.Matched.{entries_stood}
use Rattle.audit_core.specs.Pieces.{IsLawfulPiece, Piece, RestsSo, answers_in, events_behind, told_in}
use Rattle.audit_core.specs.Played.{AreBoundAs, latest_of, moment_behind}
use Rattle.audit_core.specs.Said.{AreEntries, marker, trace_from}
use Rattle.audit_core.specs.Setups.{IsSetup, input_with, setup_of, stop_of}
use Rattle.audit_core.specs.declared.pieces.Pieces.{Pieces}
use Rattle.audit_core.specs.declared.setup.BadAt.{BadAt}
use Rattle.audit_core.proofs.CaseLemmas.{its_moment, slices_are}
use Rattle.audit_core.specs.declared.sentence.Sentence.TheVariants as of
use Rattle.audit_core.proofs.NextEpoch.{told_means as told_map}
use Rattle.audit_core.proofs.LineOrder.{as_many}
use Rattle.audit_core.proofs.PieceEnds.{asked, count_made, lawful_so, said_is, slots_are}
use Rattle.audit_core.proofs.PieceTaken.{count_kept}

-- subscribers that are bound for the same slices stand behind the same lines
bound_same : (slices : ℕ) (old new : List SubscriberState) (slot : ℕ) → length new ≡ length old → AreBoundAs old new
    → bound_of slices new slot ≡ bound_of slices old slot
bound_same slices [] [] slot many bound = refl
bound_same slices [] (first ∷ new) slot many bound = absurd (omega (arith, many))
bound_same slices (first ∷ old) new slot many bound = elim (cases_lt slot (length (first ∷ old))) [
  | inl low ↦
      ap (destination_or (start_slice slices slot)) (slice_get-get_or new slot first (omega (arith, low, many)))
      ∙ bound slot first low
      ∙ ap (destination_or (start_slice slices slot)) (sym (slice_get-get_or (first ∷ old) slot first low))
  | inr past ↦
      ap (destination_or (start_slice slices slot)) (slice_get_past new slot (omega (arith, past, many)))
      ∙ ap (destination_or (start_slice slices slot)) (sym (slice_get_past (first ∷ old) slot past))
]

stands_same : (slices : ℕ) (book : List (List ℕ)) (old new : List SubscriberState) (lines : List Line)
    → length new ≡ length old → AreBoundAs old new → Stand slices book old lines → Stand slices book new lines
stands_same slices book old new lines many bound stand = record {
  book_is = stand.book_is;
  bounds = λ slot. bound_same slices old new slot many bound ∙ stand.bounds slot;
}

-- no subscriber has seen more than the last line
moment_within : (low moment : ℕ) (now : Meaning) → low ≤ moment → HasItsMoment moment now → moment_behind low now ≤ moment
moment_within low moment (trace.command slot c) le has = le
moment_within low moment (trace.packet slot p) le has = omega (arith, has)
moment_within low moment (trace.move slot slice text) le has = le
moment_within low moment (trace.note text) le has = le

latest_within : (slices low high : ℕ) (before lines : List Line) (told : List LineTold)
    → map (λ (t : LineTold). t.meaning) told ≡ meant_from slices before lines → low ≤ high → AreLater high lines
    → latest_of low told ≤ latest_behind high lines
latest_within slices low high before [] [] is le later = le
latest_within slices low high before [] (t ∷ told) is le later = absurd (omega (arith, ap length is))
latest_within slices low high before (line ∷ lines) [] is le later = absurd (omega (arith, ap length is))
latest_within slices low high before (line ∷ lines) (t ∷ told) is le later =
    let first : t.meaning ≡ settled_by slices before (meaning slices before line) = cc in
    let rest : map (λ (t : LineTold). t.meaning) told ≡ meant_from slices (before ++ line ∷ []) lines = cc in
    let has : HasItsMoment line.moment t.meaning =
    subst (HasItsMoment line.moment) (sym first)
    (its_moment slices line.moment before (book_of before) (decisions slices before)
    (decided slices (book_of before) line) (moment_decided slices (book_of before) line)) in
    latest_within slices (moment_behind low t.meaning) line.moment (before ++ line ∷ []) lines told rest
    (moment_within low line.moment t.meaning (omega (arith, le, later.0)) has) later.1

pub behind_both : (latest : ℕ) (one other : List Line)
    → latest_behind (latest_behind latest one) other ≡ latest_behind latest (one ++ other)
behind_both latest [] other = refl
behind_both latest (line ∷ one) other = behind_both line.moment one other

none_stopped : (stop : Option BadAt) → stop_of stop ≡ ended → stop ≡ None
none_stopped None is = refl
none_stopped (Some at) is = absurd (no is)
  where
    no : bad at.number at.why ≡ ended → ⊥
    no same = cc

some_lines : (lines : List Line) → IsEpoch lines → 0 < length lines
some_lines lines is = omega (arith, ap length is.2, length-append is.0 (is.1 ∷ []))

module _ (own : Pieces) (known : Behind) (piece : List Text) (hears : HearsPiece own known piece) (last : Bool)
    (fit : IsFit known last piece own) (after : List SubscriberState)
    (rests : RestsSo (asked own known piece hears last fit) own.setup.slices (latest_behind 0 known.lines)
    own.subscribers.items after)
    (holds : IsLawfulPiece (asked own known piece hears last fit)) (new : Pieces) (setup : new.setup ≡ own.setup)
    (least : new.least ≡ own.least) (book : new.book ≡ own.book) (subscribers : new.subscribers.items ≡ after)
    (fresh : IsFresh new) (epochs_are : new.epochs ≡ own.epochs + 1)
    (lines_are : new.lines ≡ own.lines + length own.kept.items) where
  abbrev its : Piece
  its = asked own known piece hears last fit

  abbrev next : Behind
  next = behind_next (setup_of own.setup) known last piece (entries_stood own.entries.items)

  said : said_in known piece ≡ input_with hears.takes.lines hears.takes.stop
  said = said_is own known piece hears fit.over

  -- a piece that isn't the last one is a whole epoch
  module _ (goes : last ≡ false) where
    whole : IsEpoch (said_in known piece).lines × ((said_in known piece).stop ≡ ended)
    whole = subst (λ b. IsOneEpoch b (said_in known piece)) goes fit.one

    no_stop : hears.takes.stop ≡ None
    no_stop = none_stopped hears.takes.stop (sym (ap (λ (input : Input). input.stop) said) ∙ whole.1)

    takes : TakesLines own known hears.takes.lines None
    takes = subst (TakesLines own known hears.takes.lines) no_stop hears.takes.takes

    lines_said : (said_in known piece).lines ≡ hears.takes.lines
    lines_said = ap (λ (input : Input). input.lines) said

    kept_are : length own.kept.items ≡ length hears.takes.lines
    kept_are = count_kept own known hears.takes.lines None takes ∙ (omega arith)

    some_kept : 0 < length own.kept.items
    some_kept = omega (arith, kept_are, some_lines (said_in known piece).lines whole.0, ap length lines_said)

    next_many : length next.lines ≡ length known.lines + length hears.takes.lines
    next_many =
        ap (λ l. length (known.lines ++ l)) lines_said ∙ length-append known.lines hears.takes.lines

    latest_next : latest_behind 0 next.lines ≡ latest_behind (latest_behind 0 known.lines) hears.takes.lines
    latest_next =
        ap (λ l. latest_behind 0 (known.lines ++ l)) lines_said ∙ sym (behind_both 0 known.lines hears.takes.lines)

    told_means : map (λ (t : LineTold). t.meaning) (told_in its)
        ≡ meant_from (slices_of (setup_of own.setup)) known.lines hears.takes.lines
    told_means =
        told_map its.made (answers_in its) (as_many (its.lines + 1) its.made (answers_in its) (holds of.Answers))
        ∙ ap (λ (input : Input). meant_from (slices_of (setup_of own.setup)) known.lines input.lines
        ++ stop_noted input.stop) said
        ∙ ap (λ stop. meant_from (slices_of (setup_of own.setup)) known.lines hears.takes.lines
        ++ stop_noted (stop_of stop)) no_stop
        ∙ append-nil (meant_from (slices_of (setup_of own.setup)) known.lines hears.takes.lines)

    rests_next : AreAtRest own.setup.slices (length next.lines) (latest_behind 0 next.lines) after
    rests_next slot none low =
        goes_on own.setup.slices (its.lines + length its.made) (latest_of (latest_behind 0 known.lines) (told_in its))
        slot (get_or after slot none) (length next.lines) (latest_behind 0 next.lines)
        (omega (arith, next_many, kept_are, count_made own known piece hears last fit))
        (omega (
          arith,
          latest_next,
          latest_within (slices_of (setup_of own.setup)) (latest_behind 0 known.lines) (latest_behind 0 known.lines)
              known.lines hears.takes.lines (told_in its) told_means (omega arith) takes.later,
        ))
        (rests.rest slot none low)

    stand_next : Stand own.setup.slices own.book after (next.lines ++ [])
    stand_next =
        subst (Stand own.setup.slices own.book after)
        (ap (λ l. known.lines ++ l) (sym lines_said) ∙ sym (append-nil next.lines))
        (stands_same own.setup.slices own.book own.subscribers.items after (known.lines ++ hears.takes.lines)
        (omega (arith, rests.many, slots_same)) rests.bound takes.stand)
      where
        slots_same : length own.subscribers.items ≡ its.slots
        slots_same = slots_are own known piece hears last fit

    pub hears_next : HearsPiece new next []
    hears_next = record {
      setup_is = rw setup hears.setup_is;
      epochs = epochs_are ∙ ap (λ n. n + 1) hears.epochs;
      lines = omega (arith, lines_are, hears.lines, kept_are, next_many);
      few = omega (arith, lines_are, hears.few, ap length fresh.kept);
      few_epochs = omega (arith, lines_are, epochs_are, hears.few_epochs, some_kept);
      trace = [];
      report = [];
      parts = subst (λ b. [] ≡ [] ++ with_report b []) (sym fresh.in_report) refl;
      before = All-nil (λ text. bytes_eq text marker ≡ false);
      unopened = λ is. refl;
      takes = record {
        lines = [];
        stop = None;
        stopped = fresh.stopped;
        says = subst (λ b. SaysPart b next [] None new.least []) (sym fresh.over) (λ later. says_next later);
        takes = record {
          ends = subst (λ b. EndsAs b []) (sym fresh.ended) tt;
          stand = rw (setup, book, subscribers) stand_next;
          many = rw (book, subscribers) many_next;
          rest = rw (setup, subscribers) rests_next;
          standing = rw subscribers rests.standing;
          later = tt;
          latest = least ∙ takes.latest ∙ sym latest_next;
          mean = (λ i. meanings_in (fresh.octets i) (fresh.kept i));
          placed = subst (ArePlaced new.octets.items) (sym fresh.kept) (All-nil _);
          open_octets = λ is. fresh.open_octets;
        };
        more = λ is. absurd (no (sym fresh.over ∙ is));
        going = λ is. refl;
      };
      reports = subst (λ b. SaysReport b [] (entries_stood new.entries.items)) (sym fresh.none)
          (subst (λ es. AreEntries [] (entries_stood es)) (sym fresh.entries)
          (record { same = refl; ranges = All-nil _ }));
    }
      where
        no : false ≡ true → ⊥
        no same = cc

        many_next : length after ≡ length own.book
        many_next = omega (arith, rests.many, slots_are own known piece hears last fit, takes.many)

        says_next : (later : List Text)
            → trace_from (length next.lines + 1) (latest_behind 0 next.lines) later
            ≡ trace_from (length next.lines + 0 + 1) new.least later
        says_next later =
            let count : length next.lines + 1 ≡ length next.lines + 0 + 1 = omega arith in
            (λ i. trace_from (count i) (sym (least ∙ takes.latest ∙ sym latest_next) i) later)

  count_said : length own.kept.items
      ≡ length (said_in known piece).lines + length (stop_noted (said_in known piece).stop)
  count_said =
      count_kept own known hears.takes.lines hears.takes.stop hears.takes.takes
      ∙ ap (λ (input : Input). length input.lines + length (stop_noted input.stop)) (sym said)

  pub let_go_so : IsLetGo last (setup_of own.setup) known piece new
  let_go_so = record {
    entries = entries_stood own.entries.items;
    lawful = lawful_so own known piece hears last fit holds;
    epochs = epochs_are ∙ ap (λ n. n + 1) hears.epochs;
    lines = omega (arith, lines_are, hears.lines, count_said);
    hears = hears_next;
  }

-- a piece that isn't the last one weighs no less than what is kept behind it
pub weighs_fresh : (own : Pieces) (known : Behind) (piece : List Text) (hears : HearsPiece own known piece)
    (last : Bool) (fit : IsFit known last piece own) → last ≡ false → (new : Pieces)
    → new.lines ≡ own.lines + length own.kept.items → IsFresh new → weight_of new ≤ weight_of own
weighs_fresh own known piece hears last fit goes new lines fresh =
    let said = said_is own known piece hears fit.over in
    let whole : IsEpoch (said_in known piece).lines × ((said_in known piece).stop ≡ ended) =
    subst (λ b. IsOneEpoch b (said_in known piece)) goes fit.one in
    let stop : hears.takes.stop ≡ None =
    none_stopped hears.takes.stop (sym (ap (λ (input : Input). input.stop) said) ∙ whole.1) in
    let open_ : own.stopped ≡ false = hears.takes.stopped ∙ ap has_stopped stop in
    let before : weight_of own ≡ 2 * (own.lines + length own.kept.items) =
    ap (λ t. 2 * (own.lines + length own.kept.items) - (if t then 1 else 0)) open_ ∙ (omega arith) in
    let after : weight_of new ≡ 2 * (new.lines + length new.kept.items) =
    ap (λ t. 2 * (new.lines + length new.kept.items) - (if t then 1 else 0)) fresh.stopped ∙ (omega arith) in
    omega (arith, before, after, lines, ap length fresh.kept)
