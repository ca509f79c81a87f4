-- The packets that a lawful report tells as forwarded for a slot are those that its events forward.
use Rattle.std.proofs.Common.{◌≡◌, ◌≢◌, ℕ, ◌+◌, ◌<◌, ◌==◌, Bool, true, false, Some, None, List, [], ◌∷◌, ◌++◌, length, map, filter, fold, cond, refl, sym, ap, subst, ◌∙◌, arith, append_assoc, append-nil}
use Rattle.std.specs.List.{filter_map, flat_map, cons_option}
use Rattle.std.specs.List.Sorted.{IsPermutation}
use Rattle.std.proofs.lemmas.Bool.{ne_eqb}
use Rattle.std.proofs.lemmas.List.Concat.{flat_map-append}
use Rattle.std.proofs.lemmas.List.Elements.{filter-append}
use Rattle.std.proofs.lemmas.List.Sorted.{IsPermutation-refl, IsPermutation-trans, IsPermutation-append_left, IsPermutation-append_right, IsPermutation-append_comm}
use Rattle.pc_base.specs.declared.effect.Effect.{Effect}
use Rattle.pc_base.specs.declared.packet.Verdict.{Verdict}
use Rattle.demux.specs.Trace.{Meaning}
use Rattle.gate_model.specs.Events.{commands_of}
use Rattle.gate_model.specs.Ledger.{Sent, sent_by_verdict, sent_by_effect, sent_at, sent_in}
use Rattle.gate_model.specs.SlotPast.{SlotPast, past_of, happens, behind as next_past, effects_after, verdict_after}
use Rattle.gate_model.specs.Stories.{Episode, episodes_from, story_of}
use Rattle.gate_model.specs.declared.event.Event.{Event}
use Rattle.gate_model.specs.declared.event.Event.TheVariants as event
use Rattle.gate_model.proofs.Following.{past-append}
use Rattle.report_lines.specs.declared.entry.LineEntry.{LineEntry}
use Rattle.report_lines.specs.declared.entry.LineEntry.TheVariants as line
use Rattle.lawful_run.specs.Setup.{Setup}
use Rattle.lawful_run.specs.Ledger.{sent_by_line, sent_by_effected, lines_sent, effects_sent}
use Rattle.lawful_run.specs.Merging.{Histories, behind}
use Rattle.lawful_run.specs.Outcomes as made_of
use Rattle.lawful_run.specs.Report.{EpochReport, Report}
use Rattle.lawful_run.specs.Run.{told_in, IsEpochRun, AreEpochRuns, IsRun, behind_all, no_events}
use Rattle.lawful_run.specs.Telling.{verdict_told}
use Rattle.lawful_run.proofs.BySlot.{one_of}
use Rattle.lawful_run.proofs.ChargesTold.{now_events, all_events}
use Rattle.lawful_run.proofs.SlotCases.{eqb_same}

-- what verdicts and effects forward
abbrev by_verdicts : List Verdict → List Sent
by_verdicts verdicts = flat_map sent_by_verdict verdicts

-- entries forward what the verdicts that they tell forward
first_sent : (test : Bool) (verdict : Verdict) (sents : List Sent) (verdicts : List Verdict)
    → sents ≡ by_verdicts verdicts
    → cond test (sent_by_verdict verdict) [] ++ sents ≡ by_verdicts
    (cons_option (cond test (Some verdict) None) verdicts)
first_sent true verdict sents verdicts same = ap (λ more. sent_by_verdict verdict ++ more) same
first_sent false verdict sents verdicts same = same

lines_forward : (slot : ℕ) (lines : List LineEntry) → flat_map (sent_by_line slot) lines
    ≡ by_verdicts (filter_map (verdict_told slot) lines)
lines_forward slot [] = refl
lines_forward slot (line.N noted ∷ lines) = lines_forward slot lines
lines_forward slot (line.C answered ∷ lines) = lines_forward slot lines
lines_forward slot (line.P judged ∷ lines) =
    first_sent (judged.slot == slot) judged.verdict (flat_map (sent_by_line slot) lines)
    (filter_map (verdict_told slot) lines) (lines_forward slot lines)
lines_forward slot (line.F refused ∷ lines) = lines_forward slot lines

-- effects of a slot forward what its events' effects do, and those of another slot nothing
own_effects : (slot command : ℕ) (effects : List Effect)
    → flat_map (sent_by_effected slot) (map (made_of.effect_entry slot command) effects)
    ≡ flat_map sent_by_effect effects
own_effects slot command [] = refl
own_effects slot command (effect ∷ effects) =
    rw (eqb_same slot) (ap (λ more. sent_by_effect effect ++ more) (own_effects slot command effects))

other_effect : (slot s command : ℕ) (effects : List Effect) → s ≢ slot
    → flat_map (sent_by_effected slot) (map (made_of.effect_entry s command) effects) ≡ []
other_effect slot s command [] other = refl
other_effect slot s command (effect ∷ effects) other =
    rw (ne_eqb s slot other) (other_effect slot s command effects other)

other_effects : (slot s : ℕ) (before events : List Event) → s ≢ slot
    → flat_map (sent_by_effected slot) (made_of.effects s before events) ≡ []
other_effects slot s before [] other = refl
other_effects slot s before (event.Command c ∷ events) other =
    flat_map-append (sent_by_effected slot) (map (made_of.effect_entry s (length (commands_of before)))
    (effects_after s before c)) _
    ∙ ap (λ xs. xs ++ flat_map (sent_by_effected slot) (made_of.effects s (before ++ event.Command c ∷ []) events))
    (other_effect slot s (length (commands_of before)) (effects_after s before c) other)
    ∙ other_effects slot s (before ++ event.Command c ∷ []) events other
other_effects slot s before (event.Packet p ∷ events) other =
    other_effects slot s (before ++ event.Packet p ∷ []) events other

-- two lists that are each made of two parts, one behind another
four_parts : {X : Type 0} (xs ys a b c d : List X) → IsPermutation xs (a ++ b) → IsPermutation ys (c ++ d)
    → IsPermutation (xs ++ ys) ((a ++ c) ++ (b ++ d))
four_parts xs ys a b c d one two =
    IsPermutation-trans (xs ++ ys) ((a ++ b) ++ ys) ((a ++ c) ++ (b ++ d))
    (IsPermutation-append_left ys xs (a ++ b) one)
    (IsPermutation-trans ((a ++ b) ++ ys) ((a ++ b) ++ (c ++ d)) ((a ++ c) ++ (b ++ d))
    (IsPermutation-append_right (a ++ b) ys (c ++ d) two)
    (subst (λ zs. IsPermutation ((a ++ b) ++ (c ++ d)) zs) (sym (append_assoc a c (b ++ d)))
    (subst (λ zs. IsPermutation zs (a ++ (c ++ (b ++ d)))) (sym (append_assoc a b (c ++ d)))
    (IsPermutation-append_right a (b ++ (c ++ d)) (c ++ (b ++ d))
    (subst (λ zs. IsPermutation zs (c ++ (b ++ d))) (append_assoc b c d)
    (subst (λ zs. IsPermutation ((b ++ c) ++ d) zs) (append_assoc c b d)
    (IsPermutation-append_left d (b ++ c) (c ++ b) (IsPermutation-append_comm b c))))))))

-- stories, one behind another
told-append : (past : SlotPast) (events others : List Event)
    → episodes_from past (events ++ others) ≡ episodes_from past events ++ episodes_from (fold next_past past events) others
told-append past [] others = refl
told-append past (now ∷ events) others = ap (λ more. record { event = now; happened = (happens past now).1 }
    ∷ more) (told-append (next_past past now) events others)

sent-append : (slot : ℕ) (before events others : List Event)
    → sent_in (episodes_from (past_of slot before) (events ++ others))
    ≡ sent_in (episodes_from (past_of slot before) events) ++ sent_in (episodes_from (past_of slot (before ++ events)) others)
sent-append slot before events others =
    ap sent_in (told-append (past_of slot before) events others)
    ∙ flat_map-append (λ (told : Episode). sent_at told.happened) (episodes_from (past_of slot before) events)
    (episodes_from (fold next_past (past_of slot before) events) others)
    ∙ ap (λ past. sent_in (episodes_from (past_of slot before) events) ++ sent_in (episodes_from past others))
    (sym (past-append slot before events))

-- The packets that events forward are those that their verdicts and their effects tell, of any kind that is looked for.
module _ (slot : ℕ) (p : Sent → Bool) where
  event_parts : (before events : List Event) → IsPermutation
      (filter p (sent_in (episodes_from (past_of slot before) events)))
      (filter p (by_verdicts (made_of.verdicts slot before events))
      ++ filter p (flat_map (sent_by_effected slot) (made_of.effects slot before events)))
  unfolding happens
  event_parts before [] = IsPermutation-refl []
  event_parts before (event.Command c ∷ events) =
      let sent : List Sent = flat_map sent_by_effect (effects_after slot before c) in
      let more : List Event = before ++ event.Command c ∷ [] in
      let verdicts : List Sent = by_verdicts (made_of.verdicts slot more events) in
      let effects : List Sent = flat_map (sent_by_effected slot) (made_of.effects slot more events) in
      let effects_are : flat_map (sent_by_effected slot) (made_of.effects slot before (event.Command c ∷ events))
      ≡ sent ++ effects =
      flat_map-append (sent_by_effected slot) (map (made_of.effect_entry slot (length (commands_of before)))
      (effects_after slot before c)) (made_of.effects slot more events)
      ∙ ap (λ xs. xs ++ effects) (own_effects slot (length (commands_of before)) (effects_after slot before c)) in
      let story_is : sent_in (episodes_from (past_of slot before) (event.Command c ∷ events)) ≡ sent
      ++ sent_in (episodes_from (past_of slot more) events) =
      ap (λ past. sent ++ sent_in (episodes_from past events)) (sym (past-append slot before (event.Command c ∷ []))) in
      subst (λ xs. IsPermutation xs (filter p verdicts ++ filter p
      (flat_map (sent_by_effected slot) (made_of.effects slot before (event.Command c ∷ events)))))
      (sym (ap (filter p) story_is ∙ filter-append p sent (sent_in (episodes_from (past_of slot more) events))))
      (subst (λ xs. IsPermutation (filter p sent ++ filter p (sent_in (episodes_from (past_of slot more) events)))
      (filter p verdicts ++ xs))
      (sym (ap (filter p) effects_are ∙ filter-append p sent effects))
      (four_parts (filter p sent) (filter p (sent_in (episodes_from (past_of slot more) events))) [] (filter p sent)
      (filter p verdicts) (filter p effects)
      (IsPermutation-refl (filter p sent)) (event_parts more events)))
  event_parts before (event.Packet q ∷ events) =
      let sent : List Sent = sent_by_verdict (verdict_after slot before q) in
      let more : List Event = before ++ event.Packet q ∷ [] in
      let verdicts : List Sent = by_verdicts (made_of.verdicts slot more events) in
      let effects : List Sent = flat_map (sent_by_effected slot) (made_of.effects slot more events) in
      let story_is : sent_in (episodes_from (past_of slot before) (event.Packet q ∷ events)) ≡ sent
      ++ sent_in (episodes_from (past_of slot more) events) =
      ap (λ past. sent ++ sent_in (episodes_from past events)) (sym (past-append slot before (event.Packet q ∷ []))) in
      subst (λ xs. IsPermutation xs (filter p (sent ++ verdicts) ++ filter p effects))
      (sym (ap (filter p) story_is ∙ filter-append p sent (sent_in (episodes_from (past_of slot more) events))))
      (subst (λ xs. IsPermutation (filter p sent ++ filter p (sent_in (episodes_from (past_of slot more) events))) (xs
      ++ filter p effects))
      (sym (filter-append p sent verdicts))
      (four_parts (filter p sent) (filter p (sent_in (episodes_from (past_of slot more) events))) (filter p sent) []
      (filter p verdicts) (filter p effects)
      (subst (IsPermutation (filter p sent)) (sym (append-nil (filter p sent)))
      (IsPermutation-refl (filter p sent))) (event_parts more events)))

  -- an epoch
  epoch_parts : (setup : Setup) (slots first : ℕ) (before : Histories) (made : List Meaning) (told : EpochReport)
      → slot < slots
      → IsEpochRun setup slots first before made told
      → IsPermutation (filter p (sent_in (episodes_from (past_of slot (before slot)) (now_events before made told slot))))
      (filter p (flat_map (sent_by_line slot) told.lines) ++ filter p (flat_map (sent_by_effected slot) told.effects))
  epoch_parts setup slots first before made told within run =
      let now : List Event = now_events before made told slot in
      let lines_are : flat_map (sent_by_line slot) told.lines ≡ by_verdicts (made_of.verdicts slot (before slot) now) =
      lines_forward slot told.lines ∙ ap by_verdicts (run.verdicts slot) in
      let effects_are : flat_map (sent_by_effected slot) told.effects
      ≡ flat_map (sent_by_effected slot) (made_of.effects slot (before slot) now) =
      ap (flat_map (sent_by_effected slot)) run.effects
      ∙ one_of (flat_map (sent_by_effected slot)) refl (flat_map-append (sent_by_effected slot))
      (λ s. made_of.effects s (before s) (now_events before made told s)) slot 0 slots (omega arith)
      (omega (arith, within))
      (λ s other. other_effects slot s (before s) (now_events before made told s) other) in
      subst (λ xs. IsPermutation (filter p (sent_in (episodes_from (past_of slot (before slot)) now))) (filter p xs
      ++ filter p (flat_map (sent_by_effected slot) told.effects)))
      (sym lines_are)
      (subst (λ xs. IsPermutation (filter p (sent_in (episodes_from (past_of slot (before slot)) now)))
      (filter p (by_verdicts (made_of.verdicts slot (before slot) now)) ++ filter p xs))
      (sym effects_are) (event_parts (before slot) now))

  -- the events of the slot in epochs, one behind another
  events_told : Histories → List (List Meaning) → List EpochReport → List Event
  events_told before [] others = []
  events_told before (made ∷ epochs) [] = []
  events_told before (made ∷ epochs) (told ∷ others) =
      now_events before made told slot ++ events_told (behind before (told_in made told)) epochs others

  events_behind_all : (before : Histories) (epochs : List (List Meaning)) (others : List EpochReport)
      → behind_all before epochs others slot ≡ before slot ++ events_told before epochs others
  unfolding events_told
  events_behind_all before [] others = sym (append-nil (before slot))
  events_behind_all before (made ∷ epochs) [] = sym (append-nil (before slot))
  events_behind_all before (made ∷ epochs) (told ∷ others) =
      events_behind_all (behind before (told_in made told)) epochs others
      ∙ append_assoc (before slot) (now_events before made told slot)
      (events_told (behind before (told_in made told)) epochs others)

  parts_from : (setup : Setup) (slots first : ℕ) (before : Histories) (epochs : List (List Meaning))
      (others : List EpochReport) → slot < slots
      → AreEpochRuns setup slots first before epochs others
      → IsPermutation (filter p (sent_in (episodes_from (past_of slot (before slot)) (events_told before epochs others))))
      (filter p (lines_sent slot others) ++ filter p (effects_sent slot others))
  unfolding events_told
  parts_from setup slots first before [] [] within runs = IsPermutation-refl []
  parts_from setup slots first before [] (told ∷ others) within runs = absurd runs
  parts_from setup slots first before (made ∷ epochs) [] within runs = absurd runs
  parts_from setup slots first before (made ∷ epochs) (told ∷ others) within runs =
      let now : List Event = now_events before made told slot in
      let next : Histories = behind before (told_in made told) in
      let later : List Event = events_told next epochs others in
      let here : List Sent = sent_in (episodes_from (past_of slot (before slot)) now) in
      let there : List Sent = sent_in (episodes_from (past_of slot (next slot)) later) in
      let lines : List Sent = flat_map (sent_by_line slot) told.lines in
      let effects : List Sent = flat_map (sent_by_effected slot) told.effects in
      subst (λ xs. IsPermutation xs (filter p (lines ++ lines_sent slot others)
      ++ filter p (effects ++ effects_sent slot others)))
      (sym (ap (filter p) (sent-append slot (before slot) now later) ∙ filter-append p here there))
      (subst (λ xs. IsPermutation (filter p here ++ filter p there) (xs
      ++ filter p (effects ++ effects_sent slot others)))
      (sym (filter-append p lines (lines_sent slot others)))
      (subst (λ xs. IsPermutation (filter p here ++ filter p there)
      ((filter p lines ++ filter p (lines_sent slot others)) ++ xs))
      (sym (filter-append p effects (effects_sent slot others)))
      (four_parts (filter p here) (filter p there) (filter p lines) (filter p effects)
      (filter p (lines_sent slot others)) (filter p (effects_sent slot others))
      (epoch_parts setup slots first before made told within runs.0)
      (parts_from setup slots (first + length made) next epochs others within runs.1))))

  -- so in a whole run
  pub run_parts : (setup : Setup) (slots : ℕ) (made : List (List Meaning)) (report : Report) → slot < slots
      → IsRun setup slots made report
      → IsPermutation (filter p (sent_in (story_of slot (all_events made report slot))))
      (filter p (lines_sent slot report.epochs ++ effects_sent slot report.epochs))
  run_parts setup slots made report within run =
      subst (λ events. IsPermutation (filter p (sent_in (story_of slot events)))
      (filter p (lines_sent slot report.epochs ++ effects_sent slot report.epochs)))
      (sym (events_behind_all no_events made report.epochs))
      (subst (IsPermutation (filter p (sent_in (story_of slot (events_told no_events made report.epochs)))))
      (sym (filter-append p (lines_sent slot report.epochs) (effects_sent slot report.epochs)))
      (parts_from setup slots 1 no_events made report.epochs within run.epochs))
