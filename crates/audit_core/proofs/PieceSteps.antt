-- A piece, from its lines and entries to what is found of it.
use Rattle.std.proofs.Common.{◌≡◌, ℕ, ◌+◌, ◌<◌, ◌≤◌, ◌^◌, if◌then◌else◌, Bool, true, false, IfNone, IfSome, IfOk, OnOk, Result, Ok, Err, Option, Some, None, List, [], ◌∷◌, ◌++◌, length, find, get_or, map, filter_map, refl, sym, ap, ◌∙◌, subst, inl, inr, arith, append-nil, length-append}
use Rattle.std.specs.List.{All}
use Rattle.std.proofs.lemmas.Bool.{cases_lt}
use Rattle.std.proofs.lemmas.List.{length-map}
use Rattle.std.proofs.lemmas.List.Elements.{All-head, All-nil}
use Rattle.demux.specs.Trace.{Meaning}
use Rattle.report_lines.specs.Records.{Effected}
use Rattle.report_lines.specs.declared.entry.ChargeEntry.{ChargeEntry}
use Rattle.report_lines.specs.declared.entry.Entry.{Entry}
use Rattle.report_lines.specs.declared.entry.Entry.TheVariants as entry
use Rattle.report_lines.specs.declared.entry.LineEntry.{LineEntry}
use Rattle.lawful_run.specs.Answers.{AnswersAll}
use Rattle.lawful_run.specs.LinesTold.{LineTold, lines_told}
use Rattle.lawful_run.specs.Merging.{events_in}
use Rattle.lawful_run.specs.Outcomes as made_of
use Rattle.lawful_run.specs.Run.{by_slot}
use Rattle.at_rest.specs.Meant.{AreStanding}
use Rattle.at_rest.specs.Rest.{AreAtRest}
use Rattle.subscriber.specs.Standing.{SubscriberState}
use Rattle.audit_core.specs.Agreeing.{AreBySlot, AreTold, slot_effected}
use Rattle.audit_core.specs.Charges.{OpenBreakOf}
use Rattle.audit_core.specs.Dues.{entries_due}
use Rattle.audit_core.specs.Entries.{line_entries, opens_told, slot_charged}
use Rattle.audit_core.specs.FirstLines.{MayStand}
use Rattle.audit_core.specs.Holding.{AreKnownTold, IsKnown}
use Rattle.audit_core.specs.Judged.{ComeLater}
use Rattle.slot_execution.specs.Kept.{meaning_in}
use Rattle.audit_core.specs.Kept.{meanings_in}
use Rattle.audit_core.specs.Matched.{MatchesAll, UnansweredIn, entries_stood, in_range}
use Rattle.audit_core.specs.Meant.{line_told, lines_of}
use Rattle.audit_core.specs.OfSlot.{AreAnswered}
use Rattle.audit_core.specs.Pieces.{BreaksFirst, BreaksIn, ComesBehind, FoundIn, FoundTo, HoldsIn, IsLedIn, IsToldIn, Piece, RestsSo, answers_in, events_behind, found_behind, led_by, opens_asked, opens_behind, piece_entries, told_in}
use Rattle.audit_core.specs.Played.{AreBoundAs, AreLate, latest_of}
use Rattle.audit_core.specs.Ranks.{rank_of}
use Rattle.audit_core.specs.Sentences.{CountsAreLawful, WaitsAreLawful}
use Rattle.audit_core.specs.Setups.{setup_of}
use Rattle.audit_core.specs.Walking.{FewBefore}
use Rattle.audit_core.specs.Why.{OrderBreak, WaitBreak}
use Rattle.slot_execution.specs.declared.kept.KeptMeaning.{KeptMeaning}
use Rattle.audit_core.specs.declared.report.Stood.{Stood}
use Rattle.audit_core.specs.declared.sentence.Refutation.{Refutation}
use Rattle.audit_core.specs.declared.sentence.Sentence.{Sentence}
use Rattle.audit_core.specs.declared.sentence.Sentence.TheVariants as of
use Rattle.audit_core.specs.declared.setup.Setup.{Setup as Given}
use Rattle.audit_core.specs.declared.slots.Played.{Played}
use Rattle.audit_core.specs.declared.telling.Break.{Break}
use Rattle.audit_core.specs.declared.told_line.ToldLine.{ToldLine}
use Rattle.audit_core.specs.declared.walking.Walked.{Walked}
use Rattle.audit_core.proofs.BreakLemmas.{answers_all, waits_from}
use Rattle.audit_core.proofs.EndSteps.{opens_below}
use Rattle.audit_core.proofs.MadeLemmas.{stands_by_slot}
use Rattle.audit_core.proofs.NextEpoch.{few_commands, few_packets, known_told, late_told, told_has, told_means}
use Rattle.audit_core.proofs.OfferLemmas.{rank_most, same_rank}
use Rattle.audit_core.proofs.OwnLemmas.{effects_own, rows_own}

-- the next sentence: what is found of it is a break, and where nothing is it holds
pub to_step : (own : Piece) (done : ℕ) (found : Option Refutation) (s : Sentence) (place : Option Break)
    → rank_of s ≡ done → IfSome place (BreaksIn own s)
    → (((t : Sentence) → rank_of t < done → HoldsIn own t) → IfNone place (HoldsIn own s))
    → FoundTo own done found → FoundTo own (done + 1) (found_behind found s place)
to_step own done (Some first) s place at some none found = (omega (arith, found.0), found.1)
to_step own done None s None at some none holds = λ t low. elim (cases_lt (rank_of t) done) [
  | inl before ↦ holds t before
  | inr past ↦
      let is : rank_of s ≡ rank_of t = omega (arith, low, past, at) in subst (HoldsIn own) (same_rank s t is) (none holds)
]
to_step own done None s (Some found) at some none holds = (
  omega (arith, at),
  record { holds = λ t low. holds t (omega (arith, low, at)); breaks = some },
)

-- all sentences were asked
pub found_whole : (own : Piece) (found : Option Refutation) → FoundTo own 11 found → FoundIn own found
found_whole own None holds = λ s. holds s (omega (arith, rank_most s))
found_whole own (Some found) is = is.1

-- lines are answered before any other sentence is asked
first_two : (own : Piece) → AnswersAll (own.lines + 1) own.made (answers_in own) → FoundTo own 2 None
first_two own holds of.Entries low = tt
first_two own holds of.Answers low = holds
first_two own holds of.Outside low = absurd (omega (arith, low))
first_two own holds of.Numbers low = absurd (omega (arith, low))
first_two own holds of.Counts low = absurd (omega (arith, low))
first_two own holds of.Gateway low = absurd (omega (arith, low))
first_two own holds of.Effects low = absurd (omega (arith, low))
first_two own holds of.Rows low = absurd (omega (arith, low))
first_two own holds of.Opens low = absurd (omega (arith, low))
first_two own holds of.Waits low = absurd (omega (arith, low))
first_two own holds of.Order low = absurd (omega (arith, low))

pub outside_to : (own : Piece) (place : Option Break) → AnswersAll (own.lines + 1) own.made (answers_in own)
    → IfSome place (BreaksIn own of.Outside) → IfNone place (HoldsIn own of.Outside)
    → FoundTo own 3 (found_behind None of.Outside place)
outside_to own place holds some none =
    to_step own 2 None of.Outside place refl some (λ before. none) (first_two own holds)

unanswered_first : (own : Piece) (found : Break) → UnansweredIn (own.lines + 1) own.made (answers_in own) found
    → BreaksFirst own (record { sentence = of.Answers; place = found })
unanswered_first own found is = record { holds = before; breaks = is }
  where
    before : (s : Sentence) → rank_of s < 1 → HoldsIn own s
    before of.Entries low = tt
    before of.Answers low = absurd (omega (arith, low))
    before of.Outside low = absurd (omega (arith, low))
    before of.Numbers low = absurd (omega (arith, low))
    before of.Counts low = absurd (omega (arith, low))
    before of.Gateway low = absurd (omega (arith, low))
    before of.Effects low = absurd (omega (arith, low))
    before of.Rows low = absurd (omega (arith, low))
    before of.Opens low = absurd (omega (arith, low))
    before of.Waits low = absurd (omega (arith, low))
    before of.Order low = absurd (omega (arith, low))

-- what is asked of the piece, as the program holds it
module _ (own : Piece) (setup : Given) (octets : List ℕ) (lines : List KeptMeaning) (entries : List Stood)
    (subscribers : List SubscriberState) (before : ℕ)
    (next : ComesBehind own setup octets lines entries subscribers) (lines_are : own.lines ≡ before) where
  as_piece : (P : ℕ → List Meaning → List LineEntry → Type 0)
      → P (before + 1) (meanings_in octets lines) (line_entries (entries_stood entries))
      → P (own.lines + 1) own.made (line_entries own.entries)
  as_piece P holds =
      subst (λ n. P (n + 1) own.made (line_entries own.entries)) (sym lines_are)
      (subst (λ m. P (before + 1) m (line_entries own.entries)) next.means
      (subst (λ es. P (before + 1) (meanings_in octets lines) (line_entries es)) next.entries_are holds))

  pub lines_short : before + 1 + length lines < 2 ^ 63
  lines_short =
      omega (
        arith,
        next.few,
        lines_are,
        ap length next.means,
        length-map lines (meaning_in octets),
      )

  pub broken_first : (found : Break)
      → UnansweredIn (before + 1) (meanings_in octets lines)
      (in_range (before + 1) (length (meanings_in octets lines)) (line_entries (entries_stood entries))) found
      → BreaksFirst own (record { sentence = of.Answers; place = found })
  broken_first found is =
      unanswered_first own found
      (as_piece (λ n made its. UnansweredIn n made (in_range n (length made) its) found) is)

  pub told_so : (told : List ToldLine)
      → MatchesAll (before + 1) (meanings_in octets lines)
      (in_range (before + 1) (length (meanings_in octets lines)) (line_entries (entries_stood entries))) told
      → IsToldIn own setup told entries subscribers
  told_so told matches =
      let match = as_piece (λ n made its. MatchesAll n made (in_range n (length made) its) told) matches in
      let means = told_means own.made (answers_in own) match.many in
      let has = told_has own.made (answers_in own) match.many in
      let answered = subst (AreAnswered (own.lines + 1)) match.told match.answered in
      record {
        setup_is = next.setup_is;
        are = match.told;
        means = means;
        has = has;
        answered = answered;
        holds = subst (λ m. AnswersAll (own.lines + 1) m (answers_in own)) means
            (subst (AnswersAll (own.lines + 1) (map (λ (t : LineTold). t.meaning) (told_in own))) has
            (answers_all (own.lines + 1) (told_in own) answered));
        stand = match.stand;
        entries_are = next.entries_are;
        known = next.known;
        many = next.many;
        standing = next.standing;
        slices = next.slices;
        latest = next.latest;
        rest = next.rest;
        late = next.late;
        few = next.few;
      }

-- each line of it has its entry
module _ (own : Piece) (setup : Given) (lines : List ToldLine) (entries : List Stood)
    (subscribers : List SubscriberState) (told : IsToldIn own setup lines entries subscribers) where
  pub lines_many : length lines ≡ length own.made
  lines_many =
      sym (length-map lines line_told) ∙ ap length told.are
      ∙ sym (length-map (told_in own) (λ (t : LineTold). t.meaning)) ∙ ap length told.means

  pub lines_few : own.lines + length lines < 2 ^ 40
  lines_few = omega (arith, told.few, lines_many)

  pub few_so : FewBefore subscribers (length lines)
  few_so = record {
    commands = λ slot none low. few_commands told.slices own.lines told.latest slot (get_or subscribers slot none)
        (length lines) (told.rest slot none low) lines_few;
    packets = λ slot none low. few_packets told.slices own.lines told.latest slot (get_or subscribers slot none)
        (length lines) (told.rest slot none low) lines_few;
  }

  pub known_so : AreKnownTold (length subscribers) (lines_of lines)
  known_so =
      subst (AreKnownTold (length subscribers)) (sym told.are)
      (subst (λ n. AreKnownTold n (told_in own)) (sym told.many)
      (known_told own.slots (told_in own) own.made told.means
      (All-head (All (IsKnown own.slots)) own.made [] told.known)))

  pub answered_so : AreAnswered (own.lines + 1) (lines_of lines)
  answered_so = subst (AreAnswered (own.lines + 1)) (sym told.are) told.answered

  late_by : (latest : ℕ) → ComeLater latest own.made → AreLate latest (lines_of lines)
  late_by latest late =
      subst (AreLate latest) (sym told.are)
      (late_told latest (told_in own) []
      (subst (ComeLater latest) (sym told.means ∙ sym (append-nil (map (λ (t : LineTold). t.meaning) (told_in own))))
      late)).0

  pub late_so : AreLate told.latest (lines_of lines)
  late_so = late_by told.latest told.late

  pub rests_so : (slices latest : ℕ) (after : List SubscriberState)
      → AreAtRest slices own.lines latest subscribers → ComeLater latest own.made
      → AreStanding after (events_behind own)
      → (AreLate latest (lines_of lines)
      → AreAtRest slices (own.lines + length lines) (latest_of latest (lines_of lines)) after)
      → length after ≡ length subscribers → AreBoundAs subscribers after
      → RestsSo own slices latest subscribers after
  rests_so slices latest after rest late stands rests many bound = record {
    many = many ∙ told.many;
    bound = bound;
    standing = stands;
    rest = subst (λ n. AreAtRest slices (own.lines + n) (latest_of latest (told_in own)) after) lines_many
        (subst (λ l. AreAtRest slices (own.lines + length lines) (latest_of latest l) after) told.are
        (rests (late_by latest late)));
  }

-- what they lead to stands by slot
pub effects_in : (own : Piece) (slots : ℕ) (effects : List Effected) → slots ≡ own.slots
    → effects ≡ (led_by own).effects → AreBySlot slot_effected slots effects
effects_in own slots effects many is =
    subst (λ n. AreBySlot slot_effected n effects) (sym many)
    (stands_by_slot slot_effected
    (λ s. made_of.effects s (own.before s) (events_in (own.before s) (told_in own) s))
    (λ s. effects_own s (own.before s) (events_in (own.before s) (told_in own) s)) own.slots effects is)

pub rows_in : (own : Piece) (slots : ℕ) (rows : List ChargeEntry) → slots ≡ own.slots
    → rows ≡ (led_by own).rows → AreBySlot slot_charged slots rows
rows_in own slots rows many is =
    subst (λ n. AreBySlot slot_charged n rows) (sym many)
    (stands_by_slot slot_charged
    (λ s. made_of.rows s (own.before s) (events_in (own.before s) (told_in own) s))
    (λ s. rows_own s (own.before s) (events_in (own.before s) (told_in own) s)) own.slots rows is)

pub opens_low : (own : Piece) (slots : ℕ) (opens : List ChargeEntry) → slots ≡ own.slots → opens ≡ opens_asked own
    → All (λ charge. slot_charged charge < slots) opens
opens_low own slots opens many is =
    subst (λ n. All (λ charge. slot_charged charge < n) opens) (sym many) (by_last own.last is)
  where
    by_last : (last : Bool) → opens ≡ (if last then opens_behind own else [])
        → All (λ charge. slot_charged charge < own.slots) opens
    by_last true same = opens_below own.slots (events_behind own) opens same
    by_last false same =
        subst (All (λ charge. slot_charged charge < own.slots)) (sym same)
        (All-nil (λ charge. slot_charged charge < own.slots))

-- the entries that it has to have
pub entries_so : (own : Piece) (lines : List LineTold) (effects : List Effected) (rows opens : List ChargeEntry)
    → lines ≡ told_in own → effects ≡ (led_by own).effects → rows ≡ (led_by own).rows → opens ≡ opens_asked own
    → entries_due lines effects rows ++ map entry.Charge opens ≡ piece_entries own
entries_so own lines effects rows opens one two three four =
    (λ i. entries_due (one i) (two i) (three i) ++ map entry.Charge (four i))

-- sentence after sentence
module _ (own : Piece) (slots : ℕ) (setup : Given) (lines : List ToldLine) (entries : List Stood) (walked : Walked)
    (played : Played) (opens : List ChargeEntry)
    (led : IsLedIn own slots setup lines entries walked played opens) where
  pub numbers_to : (found : Option Refutation) → FoundTo own 3 found
      → FoundTo own 4 (found_behind found of.Numbers walked.numbers)
  numbers_to found to =
      to_step own 3 found of.Numbers walked.numbers refl led.walks.numbers_some (λ before. led.walks.numbers_none) to

  pub counts_to : (found : Option Refutation) → FoundTo own 4 found
      → FoundTo own 5 (found_behind found of.Counts played.counts)
  counts_to found to =
      to_step own 4 found of.Counts played.counts refl led.plays.counts_some (λ before. led.plays.counts_none) to

  pub gateway_to : (found : Option Refutation) → FoundTo own 5 found
      → FoundTo own 6 (found_behind found of.Gateway played.gateway)
  gateway_to found to =
      to_step own 5 found of.Gateway played.gateway refl led.plays.gateway_some (λ before. led.plays.gateway_none) to

  may_some : (place : Option Break) → IfSome place (WaitBreak (setup_of setup) own.before (told_in own))
      → IfSome place (BreaksIn own of.Waits)
  may_some None is = tt
  may_some (Some found) is = subst (λ s. WaitBreak s own.before (told_in own) found) led.setup_is is

  may_none : (place : Option Break) → CountsAreLawful own.before (told_in own)
      → IfNone place (MayStand (setup_of setup) own.before (told_in own)) → IfNone place (HoldsIn own of.Waits)
  may_none None counts may =
      waits_from own.setup (own.lines + 1) own.before (told_in own) led.answered counts
      (subst (λ s. MayStand s own.before (told_in own)) led.setup_is may)
  may_none (Some found) counts may = tt

  pub waits_to : (found : Option Refutation) → FoundTo own 9 found
      → FoundTo own 10 (found_behind found of.Waits walked.waits)
  waits_to found to =
      to_step own 9 found of.Waits walked.waits refl (may_some walked.waits led.walks.waits_some)
      (λ before. may_none walked.waits (before of.Counts (omega arith)) led.walks.waits_none) to

  pub order_to : (found : Option Refutation) (place : Option Break) (due : List Entry) → due ≡ piece_entries own
      → IfSome place (OrderBreak (entries_stood entries) due) → IfNone place (entries_stood entries ≡ due)
      → FoundTo own 10 found → FoundIn own (found_behind found of.Order place)
  order_to found place due is some none to =
      found_whole own (found_behind found of.Order place)
      (to_step own 10 found of.Order place refl (order_some place some) (λ before. order_none place none) to)
    where
      order_some : (place : Option Break) → IfSome place (OrderBreak (entries_stood entries) due)
          → IfSome place (BreaksIn own of.Order)
      order_some None holds = tt
      order_some (Some found) holds =
          subst (λ d. OrderBreak own.entries d found) is
          (subst (λ es. OrderBreak es due found) led.entries_are holds)

      order_none : (place : Option Break) → IfNone place (entries_stood entries ≡ due)
          → IfNone place (HoldsIn own of.Order)
      order_none None same = sym led.entries_are ∙ same ∙ is
      order_none (Some found) same = tt

pub open_some : (own : Piece) (place : Option Break) (told due : List ChargeEntry) → told ≡ opens_told own.entries
    → due ≡ opens_asked own → IfSome place (OpenBreakOf told due) → IfSome place (BreaksIn own of.Opens)
open_some own None told due one two is = tt
open_some own (Some found) told due one two is =
    subst (λ d. OpenBreakOf (opens_told own.entries) d found) two (subst (λ t. OpenBreakOf t due found) one is)

pub open_none : (own : Piece) (place : Option Break) (told due : List ChargeEntry) → told ≡ opens_told own.entries
    → due ≡ opens_asked own → IfNone place (AreTold told due) → IfNone place (HoldsIn own of.Opens)
open_none own None told due one two is =
    subst (AreTold (opens_told own.entries)) two (subst (λ t. AreTold t due) one is)
open_none own (Some found) told due one two is = tt

none_is : {P : Type 0} (found : Option Refutation) → P → IfNone found P
none_is None is = is
none_is (Some first) is = tt

-- what is said of the end of a piece, where something else is answered
pub rests_any : {E : Type 0} (P : Type 0) (result : Result (Option Refutation) E) → OnOk result P
    → IfOk result (λ found. IfNone found P)
rests_any P (Ok found) is = none_is found is
rests_any P (Err e) is = tt
