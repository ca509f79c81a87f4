-- The next epoch: its lines with their entries, the subscribers before and behind them.
use Rattle.std.proofs.Common.{◌≡◌, ℕ, ◌+◌, ◌<◌, ◌≤◌, ◌^◌, Some, List, [], ◌∷◌, ◌++◌, length, get_or, map, refl, sym, ap, ◌∙◌, subst, arith, length-append}
use Rattle.std.specs.List.{All}
use Rattle.std.proofs.Math.Logic.{∥∥₁_elim}
use Rattle.std.proofs.Props.{props}
use Rattle.std.proofs.lemmas.Grind.{flat_map-append}
use Rattle.std.proofs.lemmas.List.{length-map}
use Rattle.std.proofs.lemmas.List.Elements.{All-cons, All-head, All-nil, All-tail}
use Rattle.demux.specs.Trace.{Meaning}
use Rattle.gate_model.specs.Events.{as_command, as_packet}
use Rattle.report_lines.specs.declared.entry.LineEntry.{LineEntry}
use Rattle.lawful_run.specs.Answers.{AnswersAll}
use Rattle.lawful_run.specs.LinesTold.{LineTold, lines_told}
use Rattle.lawful_run.specs.Merging.{behind}
use Rattle.lawful_run.specs.Run.{no_events}
use Rattle.at_rest.specs.Meant.{AreStanding}
use Rattle.at_rest.specs.Rest.{AreAtRest, HasEvents, IsAtRest}
use Rattle.subscriber.specs.Standing.{SubscriberState, commands_met}
use Rattle.audit_core.specs.Entries.{all_lines, epoch_at, line_entries}
use Rattle.audit_core.specs.Holding.{AreKnownTold, IsKnown}
use Rattle.audit_core.specs.Judged.{Before, Case, ComeLater, ComesNext, Epoch, HasCounted, HasJudged, IsEpochOf, IsJudgedTo, IsLedTo, IsTold, IsToldNext, Partly, RestsBehind, StandsBehind, With, asked_of, histories_at, offered}
use Rattle.slot_execution.specs.Kept.{meaning_in}
use Rattle.audit_core.specs.Kept.{meanings_in}
use Rattle.audit_core.specs.Matched.{MatchesAll, UnansweredIn, entries_stood, in_range}
use Rattle.audit_core.specs.Meant.{line_told, lines_of}
use Rattle.audit_core.specs.OfSlot.{AreAnswered}
use Rattle.audit_core.specs.Played.{AreLate, HasPlayed, latest_of, moment_behind}
use Rattle.audit_core.specs.Ranks.{rank_of}
use Rattle.audit_core.specs.Sentences.{behind_epochs}
use Rattle.audit_core.specs.Setups.{setup_of}
use Rattle.audit_core.specs.Walking.{FewBefore, HasWalked}
use Rattle.audit_core.specs.declared.judge.Judge.{Judge}
use Rattle.slot_execution.specs.declared.kept.KeptMeaning.{KeptMeaning}
use Rattle.audit_core.specs.declared.report.Report.{Report}
use Rattle.audit_core.specs.declared.report.Stood.{Stood}
use Rattle.audit_core.specs.declared.sentence.Sentence.TheVariants as of
use Rattle.audit_core.specs.declared.setup.Setup.{Setup as Given}
use Rattle.audit_core.specs.declared.slots.Played.{Played}
use Rattle.audit_core.specs.declared.telling.Break.{Break}
use Rattle.audit_core.specs.declared.told_line.ToldLine.{ToldLine}
use Rattle.audit_core.specs.declared.walking.Walked.{Walked}
use Rattle.audit_core.proofs.AnswerSteps.{answers_break, answers_with, told_here}
use Rattle.audit_core.proofs.BelongLemmas.{epoch_of_line, range_belongs}
use Rattle.audit_core.proofs.BreakLemmas.{answers_all}
use Rattle.audit_core.proofs.CountLemmas.{some_most}
use Rattle.audit_core.proofs.EpochSteps.{behind_more}
use Rattle.audit_core.proofs.JudgeSteps.{answered_so, judged_more, unanswered_end, unanswered_low}
use Rattle.audit_core.proofs.OfferLemmas.{all_done}

-- what lines with as many entries mean, and the entries
pub told_means : (made : List Meaning) (entries : List LineEntry) → length entries ≡ length made
    → map (λ (told : LineTold). told.meaning) (lines_told made entries) ≡ made
told_means [] entries many = refl
told_means (now ∷ made) [] many = absurd (omega (arith, many))
told_means (now ∷ made) (one ∷ entries) many =
    ap (λ (l : List Meaning). now ∷ l) (told_means made entries (omega (arith, many)))

pub told_has : (made : List Meaning) (entries : List LineEntry) → length entries ≡ length made
    → map (λ (told : LineTold). told.entry) (lines_told made entries) ≡ entries
told_has [] [] many = refl
told_has [] (one ∷ entries) many = absurd (omega (arith, many))
told_has (now ∷ made) [] many = absurd (omega (arith, many))
told_has (now ∷ made) (one ∷ entries) many =
    ap (λ (l : List LineEntry). one ∷ l) (told_has made entries (omega (arith, many)))

module _ (own : Case) (at : Epoch) (octets : List ℕ) (lines : List KeptMeaning) (report : Report) (entries : List Stood)
    (subscribers : List SubscriberState) (judge : Judge)
    (next : ComesNext own at octets lines report entries subscribers judge) where
  abbrev first : ℕ
  first = length (all_lines at.prefix) + 1

  abbrev its : List LineEntry
  its = in_range first (length at.now) (line_entries own.entries)

  -- the entries that were read of its lines are all that there are
  range_is : in_range first (length at.now) (line_entries (entries_stood entries)) ≡ its
  range_is =
      range_belongs own.made own.entries entries (length at.prefix) first (length at.now)
      (λ n low high. ap (λ made. epoch_at made n) next.judged.parts
      ∙ epoch_of_line at.prefix at.now at.left n low high) next.next.those

  pub count_is : judge.lines + 1 ≡ first
  count_is = ap (λ k. k + 1) next.judged.lines

  -- what a match in the lines that were kept says of the epoch
  pub match_is : (P : ℕ → List Meaning → List LineEntry → Type 0)
      → P (judge.lines + 1) (meanings_in octets lines) (in_range (judge.lines + 1) (length (meanings_in octets lines))
      (line_entries (entries_stood entries)))
      → P first at.now its
  match_is P holds =
      subst (P first at.now) range_is
      (subst (λ (m : List Meaning). P first m (in_range first (length m) (line_entries (entries_stood entries))))
      next.next.means
      (subst (λ k. P k (meanings_in octets lines) (in_range k (length (meanings_in octets lines))
      (line_entries (entries_stood entries)))) count_is holds))

  pub told_next : (told : List ToldLine) → MatchesAll first at.now its told
      → IsToldNext own at told report entries subscribers judge
  told_next told match =
      let answers = next.judged.holds of.Answers next.goes_on in
      let here : at.here ≡ lines_told at.now its =
      told_here own at next.judged.parts answers next.judged.told_parts next.judged.as_many match.many in
      let is : lines_of told ≡ at.here = match.told ∙ sym here in
      record {
        setup = next.setup;
        told = record {
          epoch = record {
            parts = next.judged.parts;
            told_parts = next.judged.told_parts;
            as_many = next.judged.as_many;
            those = next.next.those;
          };
          is = is;
          means = ap (map (λ (t : LineTold). t.meaning)) here ∙ told_means at.now its match.many;
          answered = subst (AreAnswered first) is match.answered;
          stand = match.stand;
          held = next.next.held;
          known = next.next.known;
          few = next.next.few;
          its = ap (map (λ (t : LineTold). t.entry)) here ∙ told_has at.now its match.many;
        };
        judged = next.judged;
        stands = next.stands;
        goes_on = next.goes_on;
      }

  -- a line that isn't answered ends all
  module _ (found : Break)
      (unanswered : UnansweredIn (judge.lines + 1) (meanings_in octets lines)
      (in_range (judge.lines + 1) (length (meanings_in octets lines)) (line_entries (entries_stood entries))) found)
      (new : Judge) (broken_is : new.broken ≡ offered judge.broken of.Answers (Some found)) where
    new_low : asked_of new.broken ≤ 1
    new_low =
        omega (
          arith,
          ap asked_of broken_is,
          unanswered_low own at next.judged.parts next.judged.told_parts next.judged.as_many judge.broken found,
        )

    pub broken_next : new.lines ≡ judge.lines + length lines
        → HasJudged own (at.prefix ++ at.now ∷ []) at.left (at.told ++ at.here ∷ []) at.later new
    broken_next lines_is =
        let many : length lines ≡ length at.now =
        sym (length-map lines (meaning_in octets)) ∙ ap length next.next.means in
        judged_more own at next.judged.parts next.judged.told_parts next.judged.as_many new
        (omega (arith, lines_is, many, next.judged.lines))
        (subst (Partly own (Before own at) (With own at) 11) (sym broken_is)
        (unanswered_end own at next.judged.parts next.judged.told_parts next.judged.as_many judge.broken found
        next.judged.holds next.judged.kept
        (λ before. answers_break own at next.judged.parts before found
        (match_is (λ n made its. UnansweredIn n made its found) unanswered))))
        (λ less. absurd (omega (arith, less, new_low)))

    pub broken_stands : (after : List SubscriberState)
        → StandsBehind own (at.told ++ at.here ∷ []) at.left after new
    broken_stands after = λ less. absurd (omega (arith, less, new_low))

-- an epoch each line of which has its entry
module _ (own : Case) (at : Epoch) (lines : List ToldLine) (report : Report) (entries : List Stood)
    (told : IsTold own at lines report entries) where
  pub with_answers : Before own at of.Answers → With own at of.Answers
  with_answers before =
      let first = length (all_lines at.prefix) + 1 in
      answers_with own at told.epoch.parts before
      (subst (λ (m : List Meaning). AnswersAll first m
      (in_range first (length at.now) (line_entries own.entries))) told.means
      (subst (AnswersAll first (map (λ (t : LineTold). t.meaning) at.here)) told.its
      (answers_all first at.here told.answered)))

  pub lines_many : length lines ≡ length at.now
  lines_many =
      sym (length-map lines line_told) ∙ ap length told.is
      ∙ sym (length-map at.here (λ (t : LineTold). t.meaning)) ∙ ap length told.means

  pub lines_few : length (all_lines at.prefix) + length lines < 2 ^ 40
  lines_few =
      let whole : length (all_lines own.made)
      ≡ length (all_lines at.prefix) + (length at.now + length (all_lines at.left)) =
      ap length (ap all_lines told.epoch.parts
      ∙ flat_map-append (λ (made : List Meaning). made) at.prefix (at.now ∷ at.left))
      ∙ length-append (all_lines at.prefix) (at.now ++ all_lines at.left)
      ∙ ap (λ k. length (all_lines at.prefix) + k) (length-append at.now (all_lines at.left)) in
      omega (arith, whole, told.few, lines_many)

pub known_told : (slots : ℕ) (lines : List LineTold) (made : List Meaning)
    → map (λ (t : LineTold). t.meaning) lines ≡ made → All (IsKnown slots) made → AreKnownTold slots lines
known_told slots [] made is all = All-nil (λ (t : LineTold). IsKnown slots t.meaning)
known_told slots (now ∷ lines) [] is all = absurd (cc)
known_told slots (now ∷ lines) (one ∷ made) is all =
    let same : one ≡ now.meaning = cc in
    let rest : map (λ (t : LineTold). t.meaning) lines ≡ made = cc in
    All-cons (λ (t : LineTold). IsKnown slots t.meaning) now lines
    (subst (IsKnown slots) same (All-head (IsKnown slots) one made all))
    (known_told slots lines made rest (All-tail (IsKnown slots) one made all))

-- no packet of it is late, nor of those behind it
pub late_told : (latest : ℕ) (lines : List LineTold) (more : List Meaning)
    → ComeLater latest (map (λ (t : LineTold). t.meaning) lines ++ more)
    → AreLate latest lines × ComeLater (latest_of latest lines) more
late_told latest [] more later = (tt, later)
late_told latest (now ∷ lines) more later =
    let rest = late_told (moment_behind latest now.meaning) lines more later.1 in ((later.0, rest.0), rest.1)

pub few_commands : (slices count latest slot : ℕ) (subscriber : SubscriberState) (n : ℕ)
    → IsAtRest slices count latest slot subscriber → count + n < 2 ^ 40 → commands_met subscriber + n < 2 ^ 62
few_commands slices count latest slot subscriber n rest few =
    ∥∥₁_elim rest.has_events (hlevel props) (λ (has : HasEvents slot count subscriber).
    omega (arith, has.represents.commands, has.few, few, some_most as_command has.events))

pub few_packets : (slices count latest slot : ℕ) (subscriber : SubscriberState) (n : ℕ)
    → IsAtRest slices count latest slot subscriber → count + n < 2 ^ 40 → subscriber.packets + n < 2 ^ 62
few_packets slices count latest slot subscriber n rest few =
    ∥∥₁_elim rest.has_events (hlevel props) (λ (has : HasEvents slot count subscriber).
    omega (arith, has.represents.packets, has.few, few, some_most as_packet has.events))

-- the subscribers before its lines
module _ (own : Case) (at : Epoch) (lines : List ToldLine) (report : Report) (entries : List Stood)
    (told : IsTold own at lines report entries) (subscribers : List SubscriberState) (count : ℕ)
    (rests : RestsBehind own at.told (at.now ∷ at.left) subscribers count)
    (count_is : count ≡ length (all_lines at.prefix)) where
  few : count + length lines < 2 ^ 40
  few = omega (arith, count_is, lines_few own at lines report entries told)

  pub few_before : FewBefore subscribers (length lines)
  few_before = record {
    commands = λ slot none low. few_commands rests.slices count rests.latest slot (get_or subscribers slot none)
        (length lines) (rests.rest slot none low) few;
    packets = λ slot none low. few_packets rests.slices count rests.latest slot (get_or subscribers slot none)
        (length lines) (rests.rest slot none low) few;
  }

  pub lines_short : length lines < 2 ^ 60
  lines_short = omega (arith, few)

  pub known_lines : AreKnownTold (length subscribers) (lines_of lines)
  known_lines =
      subst (AreKnownTold (length subscribers)) (sym told.is)
      (subst (λ n. AreKnownTold n at.here) (sym rests.many)
      (known_told own.slots at.here at.now told.means
      (All-head (All (IsKnown own.slots)) at.now [] told.known)))

  late : AreLate rests.latest at.here × ComeLater (latest_of rests.latest at.here) (all_lines at.left)
  late =
      late_told rests.latest at.here (all_lines at.left)
      (subst (λ (m : List Meaning). ComeLater rests.latest (m ++ all_lines at.left)) (sym told.means) rests.late)

  pub late_lines : AreLate rests.latest (lines_of lines)
  late_lines = subst (AreLate rests.latest) (sym told.is) late.0

  pub answered_lines : AreAnswered (length (all_lines at.prefix) + 1) (lines_of lines)
  answered_lines = subst (AreAnswered (length (all_lines at.prefix) + 1)) (sym told.is) told.answered

  pub plays_on : (slices latest : ℕ) × AreAtRest slices count latest subscribers × AreLate latest (lines_of lines)
      × (count + length lines < 2 ^ 40)
  plays_on = (rests.slices, rests.latest, rests.rest, late_lines, few)

  -- and behind them
  pub rests_on : (after : List SubscriberState)
      → AreStanding after (behind (behind_epochs no_events at.told) (lines_of lines))
      → AreAtRest rests.slices (count + length lines) (latest_of rests.latest (lines_of lines)) after
      → length after ≡ length subscribers
      → RestsBehind own (at.told ++ at.here ∷ []) at.left after (count + length lines)
  rests_on after stands rest many = record {
    many = many ∙ rests.many;
    stand = subst (AreStanding after)
        (ap (behind (behind_epochs no_events at.told)) told.is ∙ sym (behind_more no_events at.told at.here)) stands;
    slices = rests.slices;
    latest = latest_of rests.latest (lines_of lines);
    rest = rest;
    late = subst (λ (l : List LineTold). ComeLater (latest_of rests.latest l) (all_lines at.left)) (sym told.is) late.1;
  }

  pub led_so : (setup : Given) (slots : ℕ) (walked : Walked) (played : Played) → setup_of setup ≡ own.setup
      → slots ≡ length subscribers → HasWalked setup (histories_at at) (lines_of lines) walked
      → HasPlayed (length subscribers) (histories_at at) (lines_of lines) played
      → IsLedTo own at slots setup walked played
  led_so setup slots walked played setup_is many walks plays = record {
    setup_is = setup_is;
    many = many ∙ rests.many;
    walks = subst (λ l. HasWalked setup (histories_at at) l walked) told.is walks;
    plays = subst (λ l. HasPlayed own.slots (histories_at at) l played) told.is
        (subst (λ n. HasPlayed n (histories_at at) (lines_of lines) played) rests.many plays);
  }

-- what was judged of all before it, with its lines
module _ (own : Case) (at : Epoch) (lines : List ToldLine) (report : Report) (entries : List Stood)
    (subscribers : List SubscriberState) (judge : Judge)
    (next : IsToldNext own at lines report entries subscribers judge) (new : Judge)
    (lines_is : new.lines ≡ judge.lines + length lines) where
  abbrev epoch : IsEpochOf own at entries
  epoch = next.told.epoch

  count_new : new.lines ≡ length (all_lines at.prefix) + length at.now
  count_new = omega (arith, lines_is, next.judged.lines, lines_many own at lines report entries next.told)

  three : Partly own (Before own at) (With own at) 3 judge.broken
  three =
      answered_so own at epoch.parts epoch.told_parts epoch.as_many judge.broken next.judged.holds next.judged.kept
      (with_answers own at lines report entries next.told)

  -- where no more is asked than whether lines are answered
  pub low_next : new.broken ≡ judge.broken → asked_of judge.broken ≤ 3
      → HasJudged own (at.prefix ++ at.now ∷ []) at.left (at.told ++ at.here ∷ []) at.later new
  low_next same low =
      judged_more own at epoch.parts epoch.told_parts epoch.as_many new count_new
      (subst (Partly own (Before own at) (With own at) 11) (sym same)
      (all_done own (Before own at) (With own at) judge.broken 3 low three))
      (λ less. absurd (omega (arith, less, ap asked_of same, low)))

  pub low_stands : new.broken ≡ judge.broken → asked_of judge.broken ≤ 3 → (after : List SubscriberState)
      → StandsBehind own (at.told ++ at.here ∷ []) at.left after new
  low_stands same low after = λ less. absurd (omega (arith, less, ap asked_of same, low))

  -- and where more is
  pub judged_to : new.broken ≡ judge.broken → new.entries ≡ judge.entries → IsJudgedTo own at 3 new
  judged_to same same_entries = record {
    partly = subst (Partly own (Before own at) (With own at) 3) (sym same) three;
    counted = λ less. same_entries ∙ next.judged.counted (subst (λ b. rank_of of.Order < asked_of b) same less);
  }

  pub whole_next : Partly own (Before own at) (With own at) 11 new.broken
      → HasCounted own (at.told ++ at.here ∷ []) new
      → HasJudged own (at.prefix ++ at.now ∷ []) at.left (at.told ++ at.here ∷ []) at.later new
  whole_next partly counted =
      judged_more own at epoch.parts epoch.told_parts epoch.as_many new count_new partly counted

  pub rests_at : rank_of of.Numbers < asked_of judge.broken
      → RestsBehind own at.told (at.now ∷ at.left) subscribers judge.lines
  rests_at low = next.stands low
