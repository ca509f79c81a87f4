-- Where each packet meets just the commands before it, the report is one, but for places.
use Rattle.std.proofs.Common.{◌≡◌, ℕ, ◌+◌, false, Some, List, [], ◌∷◌, ◌++◌, length, map, refl, sym, ap, subst, ◌∙◌}
use Rattle.pc_base.specs.declared.packet.Place.TheVariants.{Closing}
use Rattle.demux.specs.Trace.{Meaning}
use Rattle.gate_model.specs.Events.{commands_of, packets_of}
use Rattle.report_lines.specs.Text.{line_without_place}
use Rattle.report_lines.specs.declared.entry.LineEntry.{LineEntry}
use Rattle.report_lines.specs.declared.entry.LineEntry.TheVariants as line
use Rattle.lawful_run.specs.Answers.{AnswersAll}
use Rattle.lawful_run.specs.AnsweredRun.{answered_run, answered_from, answered_epoch, entries_from, behind_lines, behind_epochs, brought}
use Rattle.lawful_run.specs.InSequence.{LineInSequence, EntryInSequence, EpochsInSequence, AnswersInSequence}
use Rattle.lawful_run.specs.Setup.{Setup, solo}
use Rattle.lawful_run.specs.LinesTold.{LineTold, lines_told, EachFrom}
use Rattle.lawful_run.specs.Merging.{Histories, events_in, behind}
use Rattle.lawful_run.specs.Outcomes as made_of
use Rattle.lawful_run.specs.Report.{EpochReport, Report}
use Rattle.lawful_run.specs.Run.{by_slot, told_in, IsEpochRun, AreEpochRuns, IsRun, behind_all, no_events}
use Rattle.lawful_run.specs.Telling.{counted}
use Rattle.lawful_run.proofs.InSequenceSlots.{met_slot, InLineOrder}
use Rattle.lawful_run.proofs.EveryTrace.{counted_none, with_brought, answered_epoch_lawful, answered_epoch_in_sequence}
use Rattle.lawful_run.proofs.Meets.{LineMeets, MeetsOnce, in_sequence_meets, solo_meets}
use Rattle.lawful_run.proofs.OneList.{TellTheSame, NotRefused, NoneRefused, one_list}

-- no line is refused
not_refused : (start : Histories) (prefix : List LineTold) (entry : LineEntry) → MeetsOnce start prefix entry
    → NotRefused entry
not_refused start prefix (line.N noted) meets = tt
not_refused start prefix (line.C answered) meets = tt
not_refused start prefix (line.P judged) meets = tt
not_refused start prefix (line.F refused) meets = absurd meets

none_refused : (n : ℕ) (start : Histories) (prefix : List LineTold) (made : List Meaning) (entries : List LineEntry)
    → AnswersAll n made entries
    → EachFrom (LineMeets start) prefix (lines_told made entries) → NoneRefused entries
none_refused n start prefix [] [] answers each = tt
none_refused n start prefix [] (entry ∷ entries) answers each = absurd answers
none_refused n start prefix (now ∷ made) [] answers each = absurd answers
none_refused n start prefix (now ∷ made) (entry ∷ entries) answers each =
    (not_refused start prefix entry each.0, none_refused (n + 1) start _ made entries answers.1 each.1)

-- an epoch
module _ (setup : Setup) (slots first : ℕ) (before : Histories) (made : List Meaning) (told : EpochReport)
    (run : IsEpochRun setup slots first before made told)
    (each : EachFrom (LineMeets before) [] (told_in made told)) where
  order : (slot : ℕ) → InLineOrder slot (before slot) made told.lines
  order slot = met_slot slot first before [] (before slot) made told.lines run.one_each each (counted_none before slot)

  known : EpochReport
  known = answered_epoch slots first before made

  known_run : IsEpochRun setup slots first before made (answered_epoch slots first before made)
  known_run = answered_epoch_lawful slots first before made setup

  known_each : EachFrom (LineMeets before) [] (told_in made (answered_epoch slots first before made))
  known_each = in_sequence_meets before [] _ (answered_epoch_in_sequence slots first before made)

  known_order : (slot : ℕ) → InLineOrder slot (before slot) made (entries_from first before made)
  known_order slot = met_slot slot first before [] (before slot) made
      (entries_from first before made) known_run.one_each known_each (counted_none before slot)

  -- the events are those that the lines bring
  pub events_are_one : (slot : ℕ) → events_in (before slot) (told_in made told) slot ≡ brought slot (before slot) made
  events_are_one slot = (order slot).events

  same : (slot : ℕ) → TellTheSame slot told.lines (entries_from first before made)
  same slot = record {
    command_numbers = run.command_numbers slot
        ∙ ap (λ cs. counted (length (commands_of (before slot))) (length cs)) ((order slot).commands
        ∙ sym (known_order slot).commands)
        ∙ sym (known_run.command_numbers slot);
    replies = run.replies slot ∙ ap (made_of.replies slot (before slot)) ((order slot).events
        ∙ sym (known_order slot).events)
        ∙ sym (known_run.replies slot);
    packet_numbers = run.packet_numbers slot
        ∙ ap (λ n. counted (length (packets_of (before slot))) n) ((order slot).packets
        ∙ sym (known_order slot).packets)
        ∙ sym (known_run.packet_numbers slot);
    counts = (order slot).counts ∙ sym (known_order slot).counts;
    verdicts = run.verdicts slot ∙ ap (made_of.verdicts slot (before slot)) ((order slot).events
        ∙ sym (known_order slot).events)
        ∙ sym (known_run.verdicts slot);
  }

  -- so the entries are one but for their places
  pub lines_are_one : map line_without_place told.lines ≡ map line_without_place (entries_from first before made)
  lines_are_one =
      one_list first made told.lines (entries_from first before made) run.one_each known_run.one_each
      (none_refused first before [] made told.lines run.one_each each)
      (none_refused first before [] made (entries_from first before made) known_run.one_each known_each) same

  pub effects_are_one : told.effects ≡ (answered_epoch slots first before made).effects
  effects_are_one = run.effects ∙ (λ i. by_slot slots
      (λ slot. made_of.effects slot (before slot) (events_are_one slot i)))

  pub rows_are_one : told.rows ≡ (answered_epoch slots first before made).rows
  rows_are_one = run.rows ∙ (λ i. by_slot slots (λ slot. made_of.rows slot (before slot) (events_are_one slot i)))

  pub behind_is_one : behind before (told_in made told) ≡ behind_lines before made
  behind_is_one = λ i slot. (ap (λ events. before slot ++ events) (events_are_one slot)
      ∙ with_brought slot (before slot) made) i

-- an entry that was made in sequence is known from what it tells without its place
settled : LineEntry → LineEntry
settled (line.N noted) = line.N noted
settled (line.C answered) = line.C answered
settled (line.P judged) = line.P (record judged { place = Some Closing; parked = false })
settled (line.F refused) = line.F refused

settled_entry : (start : Histories) (prefix : List LineTold) (entry : LineEntry) → EntryInSequence start prefix entry
    → settled (line_without_place entry) ≡ entry
unfolding settled
settled_entry start prefix (line.N noted) once = refl
settled_entry start prefix (line.C answered) once = refl
settled_entry start prefix (line.P judged) once =
    λ i. line.P (record judged { place = sym once.place i; parked = sym once.parked i })
settled_entry start prefix (line.F refused) once = absurd once

settled_lines : (n : ℕ) (start : Histories) (prefix : List LineTold) (made : List Meaning)
    (entries : List LineEntry) → AnswersAll n made entries
    → EachFrom (LineInSequence start) prefix (lines_told made entries)
    → map settled (map line_without_place entries) ≡ entries
settled_lines n start prefix [] [] answers each = refl
settled_lines n start prefix [] (entry ∷ entries) answers each = absurd answers
settled_lines n start prefix (now ∷ made) [] answers each = absurd answers
settled_lines n start prefix (now ∷ made) (entry ∷ entries) answers each =
    let head = settled_entry start prefix entry each.0 in
    let tail = settled_lines (n + 1) start _ made entries answers.1 each.1 in
    λ i. head i ∷ tail i

-- where each line is answered in sequence, the epoch is that of the sequential gateway
pub epoch_is_one : (setup : Setup) (slots first : ℕ) (before : Histories) (made : List Meaning) (told : EpochReport)
    → IsEpochRun setup slots first before made told → EachFrom (LineInSequence before) [] (told_in made told)
    → told ≡ answered_epoch slots first before made
epoch_is_one setup slots first before made told run once =
    let each = in_sequence_meets before [] (told_in made told) once in
    let lines : told.lines ≡ entries_from first before made =
    sym (settled_lines first before [] made told.lines run.one_each once)
    ∙ ap (map settled) (lines_are_one setup slots first before made told run each)
    ∙ settled_lines first before [] made (entries_from first before made)
    (answered_epoch_lawful slots first before made setup).one_each
    (answered_epoch_in_sequence slots first before made) in
    let effects = effects_are_one setup slots first before made told run each in
    let rows = rows_are_one setup slots first before made told run each in
    λ i. record { lines = lines i; effects = effects i; rows = rows i }

pub epochs_are_one : (setup : Setup) (slots first : ℕ) (before : Histories) (epochs : List (List Meaning))
    (others : List EpochReport)
    → AreEpochRuns setup slots first before epochs others → EpochsInSequence before epochs others
    → others ≡ answered_from slots first before epochs
epochs_are_one setup slots first before [] [] run once = refl
epochs_are_one setup slots first before [] (told ∷ others) run once = absurd run
epochs_are_one setup slots first before (made ∷ epochs) [] run once = absurd run
epochs_are_one setup slots first before (made ∷ epochs) (told ∷ others) run once =
    let head = epoch_is_one setup slots first before made told run.0 once.0 in
    let same = behind_is_one setup slots first before made told run.0
    (in_sequence_meets before [] (told_in made told) once.0) in
    let tail = epochs_are_one setup slots (first + length made) (behind_lines before made) epochs others
    (subst (λ h. AreEpochRuns setup slots (first + length made) h epochs others) same run.1)
    (subst (λ h. EpochsInSequence h epochs others) same once.1) in
    λ i. head i ∷ tail i

-- what stands behind a run in which each line meets the commands before it
abbrev pub EpochsMeet : Histories → List (List Meaning) → List EpochReport → Type 0
EpochsMeet before [] others = Unit {0}
EpochsMeet before (made ∷ epochs) [] = Unit {0}
EpochsMeet before (made ∷ epochs) (told ∷ others) =
    EachFrom (LineMeets before) [] (told_in made told) × EpochsMeet (behind before (told_in made told)) epochs others

pub in_sequence_epochs_meet : (before : Histories) (epochs : List (List Meaning)) (others : List EpochReport)
    → EpochsInSequence before epochs others
    → EpochsMeet before epochs others
in_sequence_epochs_meet before [] others once = tt
in_sequence_epochs_meet before (made ∷ epochs) [] once = tt
in_sequence_epochs_meet before (made ∷ epochs) (told ∷ others) once = (
  in_sequence_meets before [] (told_in made told) once.0,
  in_sequence_epochs_meet (behind before (told_in made told)) epochs others once.1,
)

pub solo_epochs_meet : (slots first : ℕ) (before : Histories) (epochs : List (List Meaning)) (others : List EpochReport)
    → AreEpochRuns solo slots first before epochs others → EpochsMeet before epochs others
solo_epochs_meet slots first before [] others runs = tt
solo_epochs_meet slots first before (made ∷ epochs) [] runs = tt
solo_epochs_meet slots first before (made ∷ epochs) (told ∷ others) runs = (
  solo_meets before [] (told_in made told) runs.0.bounds runs.0.refusals,
  solo_epochs_meet slots (first + length made) (behind before (told_in made told)) epochs others runs.1,
)

pub events_behind : (setup : Setup) (slots first : ℕ) (before : Histories) (epochs : List (List Meaning))
    (others : List EpochReport)
    → AreEpochRuns setup slots first before epochs others → EpochsMeet before epochs others
    → behind_all before epochs others ≡ behind_epochs before epochs
events_behind setup slots first before [] others runs meet = refl
events_behind setup slots first before (made ∷ epochs) [] runs meet = absurd runs
events_behind setup slots first before (made ∷ epochs) (told ∷ others) runs meet =
    let same = behind_is_one setup slots first before made told runs.0 meet.0 in
    ap (λ h. behind_all h epochs others) same
    ∙ events_behind setup slots (first + length made) (behind_lines before made) epochs others
    (subst (λ h. AreEpochRuns setup slots (first + length made) h epochs others) same runs.1)
    (subst (λ h. EpochsMeet h epochs others) same meet.1)

-- the sequential run is one
pub run_is_one : (setup : Setup) (slots : ℕ) (made : List (List Meaning)) (report : Report)
    → IsRun setup slots made report → AnswersInSequence made report
    → report ≡ answered_run slots made
run_is_one setup slots made report run once =
    let epochs = epochs_are_one setup slots 1 no_events made report.epochs run.epochs once in
    let events = events_behind setup slots 1 no_events made report.epochs run.epochs
    (in_sequence_epochs_meet no_events made report.epochs once) in
    let opens : report.opens ≡ by_slot slots (λ slot. made_of.opens slot (behind_epochs no_events made slot)) =
    run.opens ∙ (λ i. by_slot slots (λ slot. made_of.opens slot (events i slot))) in
    λ i. record { epochs = epochs i; opens = opens i }
