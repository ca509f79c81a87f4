-- What is found of an epoch, one sentence after another.
use Rattle.std.proofs.Common.{◌≡◌, ℕ, ◌+◌, ◌<◌, ◌≤◌, if◌then◌else◌, Bool, true, false, not, IsTrue, ◌↔◌, IfNone, IfSome, OnOk, Result, Ok, Err, Option, Some, None, List, [], ◌∷◌, ◌++◌, length, refl, sym, ap, ◌∙◌, subst, inl, inr, arith, append_assoc, append-nil, length-append}
use Rattle.std.specs.List.{find}
use Rattle.std.specs.Option.{option_map}
use Rattle.std.proofs.lemmas.Bool.{cases_lt, false≢true, le-ltb, lt-ltb}
use Rattle.std.proofs.lemmas.Grind.{flat_map-append}
use Rattle.demux.specs.Trace.{Meaning}
use Rattle.report_lines.specs.Records.{Effected}
use Rattle.report_lines.specs.declared.entry.ChargeEntry.{ChargeEntry}
use Rattle.report_lines.specs.declared.entry.Entry.{Entry}
use Rattle.report_lines.specs.declared.entry.Entry.TheVariants as entry
use Rattle.report_lines.specs.declared.entry.LineEntry.{LineEntry}
use Rattle.lawful_run.specs.LinesTold.{LineTold}
use Rattle.lawful_run.specs.Report.{EpochReport}
use Rattle.lawful_run.specs.Run.{no_events}
use Rattle.lawful_run.specs.Setup.{Setup}
use Rattle.audit_core.specs.Agreeing.{AgreeBySlot, slot_effected}
use Rattle.audit_core.specs.AnswerPlaces.{IsUnanswered, is_outside}
use Rattle.audit_core.specs.Belonging.{is_outside_entry}
use Rattle.audit_core.specs.Bounds.{IsCountBreak}
use Rattle.audit_core.specs.Charges.{ItemBreak}
use Rattle.audit_core.specs.Dues.{DiffersAt, StandsSo, entries_due}
use Rattle.audit_core.specs.Entries.{all_lines, effects_told, line_entries, rows_told, slot_charged}
use Rattle.audit_core.specs.FirstLines.{MayStand}
use Rattle.audit_core.specs.Gateway.{IsGatewayBreak}
use Rattle.audit_core.specs.Judged.{Before, Behind, BreakOf, Case, Epoch, HasCounted, HasJudged, HoldsOf, HoldsWhole, IsBroken, IsEndedTo, IsJudgedTo, IsOutside, Partly, With, asked_of, due_of, histories_at, led_here, offered, told_of}
use Rattle.audit_core.specs.OfSlot.{AreAnswered}
use Rattle.audit_core.specs.Ranks.{rank_of}
use Rattle.audit_core.specs.Sentences.{AreNumbered, AreOfTheGateway, CountsAreLawful, WaitsAreLawful}
use Rattle.audit_core.specs.Telling.{at_line, dash}
use Rattle.audit_core.specs.Why.{NumberBreak, WaitBreak}
use Rattle.audit_core.specs.declared.judge.Judge.{Judge}
use Rattle.audit_core.specs.declared.sentence.Refutation.{Refutation}
use Rattle.audit_core.specs.declared.sentence.Sentence.{Sentence as Asked}
use Rattle.audit_core.specs.declared.sentence.Sentence.TheVariants as of
use Rattle.audit_core.specs.declared.setup.Setup.{Setup as Given}
use Rattle.audit_core.specs.declared.telling.Break.{Break}
use Rattle.audit_core.proofs.BreakLemmas.{counts_broken, gateway_broken, numbers_broken, waits_broken, waits_from}
use Rattle.audit_core.proofs.EachLemmas.{each_at, each_more}
use Rattle.audit_core.proofs.EpochSteps.{charge_agrees, charge_break, epoch_break, order_break, order_counted, order_holds}
use Rattle.audit_core.proofs.OfferLemmas.{all_done, begin_with, holds_all, offer_step, pass_step}

pub some_map : {X : Type 0} (P Q : X → Type 0) (found : Option X) → ((x : X) → P x → Q x) → IfSome found P
    → IfSome found Q
some_map P Q None from holds = tt
some_map P Q (Some x) from holds = from x holds

pub none_map : {X P Q : Type 0} (found : Option X) → (P → Q) → IfNone found P → IfNone found Q
none_map None from holds = from holds
none_map (Some x) from holds = tt

-- what is offered is kept, or not
pub offered_kept : (broken : Option Refutation) (s : Asked) (place : Break) → rank_of s < asked_of broken
    → offered broken s (Some place) ≡ Some (record { sentence = s; place = place })
offered_kept broken s place low =
    ap (λ t. if t then Some (record { sentence = s; place = place }) else broken)
    (lt-ltb (rank_of s) (asked_of broken) low)

pub offered_passed : (broken : Option Refutation) (s : Asked) (place : Break) → asked_of broken ≤ rank_of s
    → offered broken s (Some place) ≡ broken
offered_passed broken s place past =
    ap (λ t. if t then Some (record { sentence = s; place = place }) else broken)
    (le-ltb (rank_of s) (asked_of broken) past)

offered_low : (broken : Option Refutation) (s : Asked) (place : Break)
    → asked_of (offered broken s (Some place)) ≤ rank_of s
offered_low broken s place = elim (cases_lt (rank_of s) (asked_of broken)) [
  | inl low ↦ omega (arith, ap asked_of (offered_kept broken s place low))
  | inr past ↦ omega (arith, past, ap asked_of (offered_passed broken s place past))
]

-- a sentence that isn't asked for
pub not_wanted : (wants : Bool) (rank asked : ℕ) → (IsTrue wants ↔ (rank < asked)) → wants ≡ false → asked ≤ rank
not_wanted wants rank asked is lacks = elim (cases_lt rank asked) [
  | inl more ↦ absurd (false≢true (sym lacks ∙ is.1 more))
  | inr low ↦ low
]

pub on_ok_any : {X E Q : Type 0} (result : Result X E) → Q → OnOk result Q
on_ok_any (Ok x) is = is
on_ok_any (Err e) is = tt

pub on_ok_both : {X E P Q R : Type 0} (result : Result X E) → (P → Q → R) → OnOk result P → OnOk result Q
    → OnOk result R
on_ok_both (Ok x) from p q = from p q
on_ok_both (Err e) from p q = tt

-- nothing goes before an answer that is missing
pub over_by : (wants : Bool) (asked : ℕ) → (IsTrue wants ↔ (rank_of of.Answers < asked))
    → IsTrue (not wants) ↔ (asked ≤ rank_of of.Answers)
over_by true asked is = (
  (λ yes. absurd (false≢true yes)),
  (λ low. let more : 1 < asked = is.0 refl in absurd (omega (arith, low, more))),
)
over_by false asked is = (
  (λ yes. elim (cases_lt 1 asked) [
    | inl more ↦ absurd (false≢true (is.1 more))
    | inr low ↦ low
  ]),
  (λ low. refl),
)

-- what is offered leaves no more to be asked
offered_asked : (broken : Option Refutation) (s : Asked) (found : Option Break)
    → asked_of (offered broken s found) ≤ asked_of broken
offered_asked broken s None = omega arith
offered_asked broken s (Some place) = elim (cases_lt (rank_of s) (asked_of broken)) [
  | inl low ↦ omega (arith, low, ap asked_of (offered_kept broken s place low))
  | inr past ↦ omega (arith, ap asked_of (offered_passed broken s place past))
]

pub counted_on : (own : Case) (told : List (List LineTold)) (s : Asked) (found : Option Break) (old new : Judge)
    → new.broken ≡ offered old.broken s found → new.entries ≡ old.entries → HasCounted own told old
    → HasCounted own told new
counted_on own told s found old new broken_is entries_is counted = λ less.
    entries_is ∙ counted (omega (arith, less, ap asked_of broken_is, offered_asked old.broken s found))

-- a sentence more of an epoch, and of all
pub judged_on : (own : Case) (at : Epoch) (done : ℕ) (s : Asked) (found : Option Break) (old new : Judge)
    → new.broken ≡ offered old.broken s found → new.entries ≡ old.entries
    → (Partly own (Before own at) (With own at) done old.broken
    → Partly own (Before own at) (With own at) (done + 1) (offered old.broken s found))
    → IsJudgedTo own at done old → IsJudgedTo own at (done + 1) new
judged_on own at done s found old new broken_is entries_is step judged = record {
  partly = subst (Partly own (Before own at) (With own at) (done + 1)) (sym broken_is) (step judged.partly);
  counted = counted_on own at.told s found old new broken_is entries_is judged.counted;
}

pub ended_on : (own : Case) (done : ℕ) (s : Asked) (found : Option Break) (old new : Judge)
    → new.broken ≡ offered old.broken s found → new.entries ≡ old.entries
    → (Partly own (Behind own) (HoldsWhole own) done old.broken
    → Partly own (Behind own) (HoldsWhole own) (done + 1) (offered old.broken s found))
    → IsEndedTo own done old → IsEndedTo own (done + 1) new
ended_on own done s found old new broken_is entries_is step ended = record {
  partly = subst (Partly own (Behind own) (HoldsWhole own) (done + 1)) (sym broken_is) (step ended.partly);
  counted = counted_on own (told_of own) s found old new broken_is entries_is ended.counted;
}

-- breaks of items that are the same
module _ {X : Type 0} (whose : X → ℕ) (as_entry : X → Entry) (found : Option Break) where
  pub item_as : (slots n : ℕ) (told t due d : List X) → slots ≡ n → told ≡ t → due ≡ d
      → IfSome found (ItemBreak whose as_entry slots told due) → IfSome found (ItemBreak whose as_entry n t d)
  item_as slots n told t due d one two three some =
      subst (λ k. IfSome found (ItemBreak whose as_entry k t d)) one
      (subst (λ l. IfSome found (ItemBreak whose as_entry slots l d)) two
      (subst (λ l. IfSome found (ItemBreak whose as_entry slots told l)) three some))

  pub agree_as : (told t due d : List X) → told ≡ t → due ≡ d → IfNone found (AgreeBySlot whose told due)
      → IfNone found (AgreeBySlot whose t d)
  agree_as told t due d two three none =
      subst (λ l. IfNone found (AgreeBySlot whose l d)) two
      (subst (λ l. IfNone found (AgreeBySlot whose told l)) three none)

-- the entry of a line that there isn't, among all entries and among those of lines
find_lines : (count : ℕ) (entries : List Entry)
    → find (is_outside_entry count) entries ≡ option_map entry.Line (find (is_outside count) (line_entries entries))
find_lines count [] = refl
find_lines count (entry.Line of_line ∷ later) = by (is_outside count of_line) (find_lines count later)
  where
    by : (test : Bool)
        → find (is_outside_entry count) later ≡ option_map entry.Line (find (is_outside count) (line_entries later))
        → (if test then Some (entry.Line of_line) else find (is_outside_entry count) later)
        ≡ option_map entry.Line (if test then Some of_line else find (is_outside count) (line_entries later))
    by true rest = refl
    by false rest = rest
find_lines count (entry.Effect effect ∷ later) = find_lines count later
find_lines count (entry.Charge charged ∷ later) = find_lines count later

lined_none : (found : Option LineEntry) → None ≡ option_map entry.Line found → found ≡ None
lined_none None is = refl
lined_none (Some now) is = absurd (cc)

lined_some : (found : Option LineEntry) (now : LineEntry) → Some (entry.Line now) ≡ option_map entry.Line found
    → found ≡ Some now
lined_some None now is = absurd (cc)
lined_some (Some other) now is = let same : now ≡ other = cc in ap Some (sym same)

pub outside_none : (count : ℕ) (entries : List Entry) → None ≡ find (is_outside_entry count) entries
    → IsOutside count entries None
outside_none count entries is =
    lined_none (find (is_outside count) (line_entries entries)) (is ∙ find_lines count entries)

pub outside_some : (count : ℕ) (entries : List Entry) (now : LineEntry) (place : Break)
    → Some (entry.Line now) ≡ find (is_outside_entry count) entries → place ≡ at_line now dash
    → IsOutside count entries (Some (record { sentence = of.Outside; place = place }))
outside_some count entries now place is at = (
  now,
  lined_some (find (is_outside count) (line_entries entries)) now (is ∙ find_lines count entries),
  ap (λ (p : Break). record { sentence = of.Outside; place = p }) at,
)

lined_line : (found : Option LineEntry) (one : Entry) → Some one ≡ option_map entry.Line found
    → (now : LineEntry) × (one ≡ entry.Line now)
lined_line None one is = absurd (cc)
lined_line (Some now) one is = let same : one ≡ entry.Line now = cc in (now, same)

pub outside_effect : (count : ℕ) (entries : List Entry) (effect : Effected)
    → Some (entry.Effect effect) ≡ find (is_outside_entry count) entries → ⊥
outside_effect count entries effect is =
    let line = lined_line (find (is_outside count) (line_entries entries)) (entry.Effect effect)
    (is ∙ find_lines count entries) in
    let no : entry.Effect effect ≡ entry.Line line.0 = line.1 in
    cc

pub outside_charge : (count : ℕ) (entries : List Entry) (charged : ChargeEntry)
    → Some (entry.Charge charged) ≡ find (is_outside_entry count) entries → ⊥
outside_charge count entries charged is =
    let line = lined_line (find (is_outside count) (line_entries entries)) (entry.Charge charged)
    (is ∙ find_lines count entries) in
    let no : entry.Charge charged ≡ entry.Line line.0 = line.1 in
    cc

-- before the first epoch
holds_first : (own : Case) (broken : Option Refutation) → IsOutside (length (all_lines own.made)) own.entries broken
    → (s : Asked) → rank_of s < asked_of broken → HoldsOf own [] [] s
holds_first own broken outside of.Entries low = tt
holds_first own broken outside of.Answers low = tt
holds_first own None outside of.Outside low = outside
holds_first own (Some found) outside of.Outside low =
    absurd (omega (arith, low, ap (λ (f : Refutation). rank_of f.sentence) outside.2))
holds_first own broken outside of.Numbers low = tt
holds_first own broken outside of.Counts low = tt
holds_first own broken outside of.Gateway low = tt
holds_first own broken outside of.Effects low = tt
holds_first own broken outside of.Rows low = tt
holds_first own broken outside of.Opens low = tt
holds_first own broken outside of.Waits low = tt
holds_first own broken outside of.Order low = (own.entries, refl)

broken_first : (own : Case) (broken : Option Refutation) → IsOutside (length (all_lines own.made)) own.entries broken
    → IsBroken own broken
broken_first own None outside = tt
broken_first own (Some found) outside =
    subst (λ (f : Refutation). IsBroken own (Some f)) (sym outside.2) (outside.0, outside.1, refl)

pub judged_first : (own : Case) (setup : Given) (broken : Option Refutation)
    → IsOutside (length (all_lines own.made)) own.entries broken
    → HasJudged own [] own.made [] (told_of own) (record { setup = setup; lines = 0; entries = 0; broken = broken })
judged_first own setup broken outside = record {
  parts = refl;
  told_parts = refl;
  as_many = refl;
  lines = refl;
  counted = λ low. refl;
  holds = holds_first own broken outside;
  kept = broken_first own broken outside;
}

-- an epoch more
module _ (own : Case) (at : Epoch) (parts : own.made ≡ at.prefix ++ at.now ∷ at.left)
    (told_parts : told_of own ≡ at.told ++ at.here ∷ at.later) (many : length at.told ≡ length at.prefix) where
  lines_more : length (all_lines (at.prefix ++ at.now ∷ [])) ≡ length (all_lines at.prefix) + length at.now
  lines_more =
      ap length (flat_map-append (λ (made : List Meaning). made) at.prefix (at.now ∷ [])
      ∙ ap (λ l. all_lines at.prefix ++ l) (append-nil at.now))
      ∙ length-append (all_lines at.prefix) at.now

  pub judged_more : (judge : Judge) → judge.lines ≡ length (all_lines at.prefix) + length at.now
      → Partly own (Before own at) (With own at) 11 judge.broken
      → HasCounted own (at.told ++ at.here ∷ []) judge
      → HasJudged own (at.prefix ++ at.now ∷ []) at.left (at.told ++ at.here ∷ []) at.later judge
  judged_more judge count partly counted = record {
    parts = parts ∙ sym (append_assoc at.prefix (at.now ∷ []) at.left);
    told_parts = told_parts ∙ sym (append_assoc at.told (at.here ∷ []) at.later);
    as_many = length-append at.told (at.here ∷ []) ∙ ap (λ k. k + 1) many
        ∙ sym (length-append at.prefix (at.now ∷ []));
    lines = count ∙ sym lines_more;
    counted = counted;
    holds = holds_all own (Before own at) (With own at) judge.broken partly;
    kept = partly.kept;
  }

  -- a line that isn't answered ends all
  pub unanswered_end : (broken : Option Refutation) (found : Break)
      → ((s : Asked) → rank_of s < asked_of broken → Before own at s) → IsBroken own broken
      → (Before own at of.Answers → IsUnanswered own.made own.entries found)
      → Partly own (Before own at) (With own at) 11 (offered broken of.Answers (Some found))
  unanswered_end broken found holds kept is =
      let first = pass_step own (Before own at) (With own at) of.Entries broken 0 refl
      (begin_with own (Before own at) (With own at) broken holds kept) (λ low. tt) in
      all_done own (Before own at) (With own at) (offered broken of.Answers (Some found)) 2
      (omega (arith, offered_low broken of.Answers found))
      (offer_step own (Before own at) (With own at) of.Answers broken (Some found) 1 refl first
      (λ low. is (holds of.Answers low)) (λ low. tt))

  pub unanswered_low : (broken : Option Refutation) (found : Break)
      → asked_of (offered broken of.Answers (Some found)) ≤ 1
  unanswered_low broken found = offered_low broken of.Answers found

  -- all lines are answered
  pub answered_so : (broken : Option Refutation) → ((s : Asked) → rank_of s < asked_of broken → Before own at s)
      → IsBroken own broken → (Before own at of.Answers → With own at of.Answers)
      → Partly own (Before own at) (With own at) 3 broken
  answered_so broken holds kept answers =
      let none = begin_with own (Before own at) (With own at) broken holds kept in
      let first = pass_step own (Before own at) (With own at) of.Entries broken 0 refl none (λ low. tt) in
      let second = pass_step own (Before own at) (With own at) of.Answers broken 1 refl first
      (λ low. answers (holds of.Answers low)) in
      pass_step own (Before own at) (With own at) of.Outside broken 2 refl second (λ low. holds of.Outside low)

  module _ (n : ℕ) (are : AreAnswered n at.here) where
    pub numbers_step : (broken : Option Refutation) (found : Option Break)
        → IfSome found (NumberBreak (histories_at at) at.here) → IfNone found (AreNumbered (histories_at at) at.here)
        → Partly own (Before own at) (With own at) 3 broken
        → Partly own (Before own at) (With own at) 4 (offered broken of.Numbers found)
    numbers_step broken found some none partly =
        offer_step own (Before own at) (With own at) of.Numbers broken found 3 refl partly
        (λ low. some_map (NumberBreak (histories_at at) at.here)
        (BreakOf own of.Numbers) found (λ f there.
        epoch_break own at told_parts AreNumbered NumberBreak f (partly.old of.Numbers low (omega arith)) there
        (numbers_broken n (histories_at at) at.here f are there)) some)
        (λ low. none_map found
        (each_more AreNumbered no_events at.told at.here (partly.old of.Numbers low (omega arith))) none)

    pub gateway_step : (broken : Option Refutation) (found : Option Break)
        → IfSome found (IsGatewayBreak (histories_at at) at.here)
        → IfNone found (AreOfTheGateway (histories_at at) at.here)
        → Partly own (Before own at) (With own at) 5 broken
        → Partly own (Before own at) (With own at) 6 (offered broken of.Gateway found)
    gateway_step broken found some none partly =
        offer_step own (Before own at) (With own at) of.Gateway broken found 5 refl partly
        (λ low. some_map (IsGatewayBreak (histories_at at) at.here)
        (BreakOf own of.Gateway) found (λ f there.
        epoch_break own at told_parts AreOfTheGateway IsGatewayBreak f (partly.old of.Gateway low (omega arith)) there
        (gateway_broken n (histories_at at) at.here f are there)) some)
        (λ low. none_map found
        (each_more AreOfTheGateway no_events at.told at.here (partly.old of.Gateway low (omega arith))) none)

    pub waits_step : (setup : Setup) (broken : Option Refutation) (found : Option Break) → setup ≡ own.setup
        → IfSome found (WaitBreak setup (histories_at at) at.here)
        → IfNone found (MayStand setup (histories_at at) at.here)
        → Partly own (Before own at) (With own at) 9 broken
        → Partly own (Before own at) (With own at) 10 (offered broken of.Waits found)
    waits_step setup broken found same some none partly =
        offer_step own (Before own at) (With own at) of.Waits broken found 9 refl partly
        (λ low. some_map (WaitBreak setup (histories_at at) at.here)
        (BreakOf own of.Waits) found (λ f there.
        let here : WaitBreak own.setup (histories_at at) at.here f =
        subst (λ s. WaitBreak s (histories_at at) at.here f) same there in
        epoch_break own at told_parts (WaitsAreLawful own.setup) (WaitBreak own.setup) f
        (partly.old of.Waits low (omega arith)) here
        (waits_broken own.setup (histories_at at) at.here f here)) some)
        (λ low. none_map found (λ (may : MayStand setup (histories_at at) at.here).
        let counts : CountsAreLawful (histories_at at) at.here =
        each_at CountsAreLawful no_events at.told at.here []
        (partly.new of.Counts (omega (arith, low)) (omega arith)) in
        each_more (WaitsAreLawful own.setup) no_events at.told at.here (partly.old of.Waits low (omega arith))
        (waits_from own.setup n (histories_at at) at.here are counts
        (subst (λ s. MayStand s (histories_at at) at.here) same may))) none)

  pub counts_step : (broken : Option Refutation) (found : Option Break)
      → IfSome found (IsCountBreak (histories_at at) at.here) → IfNone found (CountsAreLawful (histories_at at) at.here)
      → Partly own (Before own at) (With own at) 4 broken
      → Partly own (Before own at) (With own at) 5 (offered broken of.Counts found)
  counts_step broken found some none partly =
      offer_step own (Before own at) (With own at) of.Counts broken found 4 refl partly
      (λ low. some_map (IsCountBreak (histories_at at) at.here)
      (BreakOf own of.Counts) found (λ f there.
      epoch_break own at told_parts CountsAreLawful IsCountBreak f (partly.old of.Counts low (omega arith)) there
      (counts_broken (histories_at at) at.here f there)) some)
      (λ low. none_map found
      (each_more CountsAreLawful no_events at.told at.here (partly.old of.Counts low (omega arith))) none)

  pub effects_step : (broken : Option Refutation) (found : Option Break)
      → IfSome found (ItemBreak slot_effected entry.Effect own.slots
      (effects_told own.made (length at.prefix) own.entries) (led_here own at).effects)
      → IfNone found (AgreeBySlot slot_effected (effects_told own.made (length at.prefix) own.entries)
      (led_here own at).effects)
      → Partly own (Before own at) (With own at) 6 broken
      → Partly own (Before own at) (With own at) 7 (offered broken of.Effects found)
  effects_step broken found some none partly =
      offer_step own (Before own at) (With own at) of.Effects broken found 6 refl partly
      (λ low. some_map (ItemBreak slot_effected entry.Effect own.slots
      (effects_told own.made (length at.prefix) own.entries) (led_here own at).effects)
      (BreakOf own of.Effects) found
      (charge_break own at told_parts slot_effected entry.Effect (λ epoch. effects_told own.made epoch own.entries)
      (λ (now : EpochReport). now.effects) many (partly.old of.Effects low (omega arith))) some)
      (λ low. none_map found
      (charge_agrees own at told_parts slot_effected entry.Effect (λ epoch. effects_told own.made epoch own.entries)
      (λ (now : EpochReport). now.effects) many (partly.old of.Effects low (omega arith))) none)

  pub rows_step : (broken : Option Refutation) (found : Option Break)
      → IfSome found (ItemBreak slot_charged entry.Charge own.slots
      (rows_told own.made (length at.prefix) own.entries) (led_here own at).rows)
      → IfNone found (AgreeBySlot slot_charged (rows_told own.made (length at.prefix) own.entries)
      (led_here own at).rows)
      → Partly own (Before own at) (With own at) 7 broken
      → Partly own (Before own at) (With own at) 8 (offered broken of.Rows found)
  rows_step broken found some none partly =
      offer_step own (Before own at) (With own at) of.Rows broken found 7 refl partly
      (λ low. some_map (ItemBreak slot_charged entry.Charge own.slots
      (rows_told own.made (length at.prefix) own.entries) (led_here own at).rows)
      (BreakOf own of.Rows) found
      (charge_break own at told_parts slot_charged entry.Charge (λ epoch. rows_told own.made epoch own.entries)
      (λ (now : EpochReport). now.rows) many (partly.old of.Rows low (omega arith))) some)
      (λ low. none_map found
      (charge_agrees own at told_parts slot_charged entry.Charge (λ epoch. rows_told own.made epoch own.entries)
      (λ (now : EpochReport). now.rows) many (partly.old of.Rows low (omega arith))) none)

  -- nothing is asked of open counters in an epoch
  pub opens_pass : (broken : Option Refutation) → Partly own (Before own at) (With own at) 8 broken
      → Partly own (Before own at) (With own at) 9 broken
  opens_pass broken partly =
      pass_step own (Before own at) (With own at) of.Opens broken 8 refl partly (λ low. tt)

  module _ (effects : List Effected) (rows : List ChargeEntry) (effects_are : effects ≡ (led_here own at).effects)
      (rows_are : rows ≡ (led_here own at).rows) where
    due_here : entries_due at.here effects rows
        ≡ entries_due at.here (led_here own at).effects (led_here own at).rows
    due_here = (λ i. entries_due at.here (effects_are i) (rows_are i))

    pub order_step : (broken : Option Refutation) (found : Option Break) (place : ℕ)
        → IfSome found (DiffersAt own.entries (due_of own at.told ++ entries_due at.here effects rows))
        → IfNone found (StandsSo own.entries (due_of own at.told ++ entries_due at.here effects rows) place)
        → Partly own (Before own at) (With own at) 10 broken
        → Partly own (Before own at) (With own at) 11 (offered broken of.Order found)
    order_step broken found place some none partly =
        offer_step own (Before own at) (With own at) of.Order broken found 10 refl partly
        (λ low. some_map (DiffersAt own.entries (due_of own at.told ++ entries_due at.here effects rows))
        (BreakOf own of.Order) found (λ f there. order_break own at told_parts f
        (subst (λ (d : List Entry). DiffersAt own.entries (due_of own at.told ++ d) f) due_here there)) some)
        (λ low. none_map found
        (λ (so : StandsSo own.entries (due_of own at.told ++ entries_due at.here effects rows) place).
        order_holds own at place
        (subst (λ (d : List Entry). StandsSo own.entries (due_of own at.told ++ d) place) due_here so)) none)

    pub counted_step : (broken : Option Refutation) (found : Option Break) (place : ℕ)
        → rank_of of.Order < asked_of broken
        → IfNone found (StandsSo own.entries (due_of own at.told ++ entries_due at.here effects rows) place)
        → rank_of of.Order < asked_of (offered broken of.Order found)
        → place ≡ length (due_of own (at.told ++ at.here ∷ []))
    counted_step broken None place low none still =
        order_counted own at place
        (subst (λ (d : List Entry). StandsSo own.entries (due_of own at.told ++ d) place) due_here none)
    counted_step broken (Some f) place low none still =
        absurd (omega (arith, still, ap asked_of (offered_kept broken of.Order f low)))

-- the entries that epochs before are due stand first
pub so_before : (own : Case) (at : Epoch) (place : ℕ) → Before own at of.Order → place ≡ length (due_of own at.told)
    → StandsSo own.entries (due_of own at.told) place
so_before own at place holds count = record { left = holds.0; parts = holds.1; behind = count }
