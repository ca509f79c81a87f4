-- The entries of the sequential gateway are a lawful run.
use Rattle.std.proofs.Common.{◌≡◌, ℕ, ◌+◌, ◌==◌, Bool, true, false, List, [], ◌∷◌, ◌++◌, length, cond, refl, sym, ap, subst, ◌∙◌, arith, append_assoc, append-nil}
use Rattle.demux.specs.Trace.{Meaning, command, packet, move, note}
use Rattle.gate_model.specs.Events.{packets_of}
use Rattle.gate_model.specs.declared.event.Event.{Event}
use Rattle.gate_model.specs.declared.event.Event.TheVariants as event
use Rattle.lawful_run.specs.AnsweredRun.{answered_run, answered_from, answered_epoch, entries_from, behind_lines, behind_epochs, events_after, brought, brings, with_line}
use Rattle.lawful_run.specs.InSequence.{LineInSequence, EpochsInSequence, AnswersInSequence}
use Rattle.lawful_run.specs.Setup.{Setup}
use Rattle.lawful_run.specs.LinesTold.{lines_told, EachFrom}
use Rattle.demux.specs.Packets.{numbered}
use Rattle.lawful_run.specs.Merging.{Histories, behind}
use Rattle.lawful_run.specs.Outcomes as made_of
use Rattle.lawful_run.specs.Run.{by_slot, told_in, IsEpochRun, AreEpochRuns, IsRun, behind_all, no_events}
use Rattle.lawful_run.proofs.AnsweredLines.{answered_each, answered_in_sequence, answered_slot}
use Rattle.lawful_run.proofs.InSequenceSlots.{met_slot, InLineOrder}
use Rattle.lawful_run.proofs.Counting.{IsCounted}
use Rattle.lawful_run.proofs.Meets.{in_sequence_meets}
use Rattle.lawful_run.proofs.Lawful.{within, not_refused, not_parked}

-- the events that a line brings stand behind those before it
with_brings : (slot : ℕ) (events : List Event) (now : Meaning)
    → events ++ brings slot events now ≡ with_line slot events now
with_brings slot events (note text) = append-nil events
with_brings slot events (move own slice text) = append-nil events
with_brings slot events (command own c) = by_test (own == slot) where
  by_test : (test : Bool) → events ++ cond test (event.Command c ∷ []) []
      ≡ cond test (events ++ event.Command c ∷ []) events
  by_test true = refl
  by_test false = append-nil events
with_brings slot events (packet own p) = by_test (own == slot) where
  by_test : (test : Bool) → events ++ cond test (event.Packet (numbered (length (packets_of events)) p) ∷ []) []
      ≡ cond test (events ++ event.Packet (numbered (length (packets_of events)) p) ∷ []) events
  by_test true = refl
  by_test false = append-nil events

pub with_brought : (slot : ℕ) (events : List Event) (made : List Meaning)
    → events ++ brought slot events made ≡ events_after slot events made
with_brought slot events [] = append-nil events
with_brought slot events (now ∷ made) =
    sym (append_assoc events (brings slot events now) (brought slot (with_line slot events now) made))
    ∙ ap (λ prefix. prefix ++ brought slot (with_line slot events now) made) (with_brings slot events now)
    ∙ with_brought slot (with_line slot events now) made

-- no line of an epoch is counted before its first
pub counted_none : (before : Histories) (slot : ℕ) → IsCounted before slot [] (before slot)
counted_none before slot = omega arith

module _ (slots first : ℕ) (before : Histories) (made : List Meaning) where
  in_sequence : EachFrom (LineInSequence before) [] (lines_told made (entries_from first before made))
  in_sequence = answered_in_sequence first before [] before made (counted_none before)

  in_order : (slot : ℕ) → InLineOrder slot (before slot) made (entries_from first before made)
  in_order slot =
      met_slot slot first before [] (before slot) made (entries_from first before made)
      (answered_each first before made)
      (in_sequence_meets before [] (lines_told made (entries_from first before made)) in_sequence) (counted_none before slot)

  pub answered_epoch_lawful : (setup : Setup) → IsEpochRun setup slots first before made
      (answered_epoch slots first before made)
  answered_epoch_lawful setup = record {
    one_each = answered_each first before made;
    command_numbers = λ slot. (answered_slot slot first before made).command_numbers;
    packet_numbers = λ slot. (answered_slot slot first before made).packet_numbers;
    counts_rise = λ slot. (in_order slot).rises;
    bounds = within setup before (lines_told made (entries_from first before made)) in_sequence;
    replies = λ slot. (answered_slot slot first before made).replies
        ∙ sym (ap (made_of.replies slot (before slot)) (in_order slot).events);
    verdicts = λ slot. (answered_slot slot first before made).verdicts
        ∙ sym (ap (made_of.verdicts slot (before slot)) (in_order slot).events);
    effects = λ i. by_slot slots (λ slot. made_of.effects slot (before slot) (sym (in_order slot).events i));
    rows = λ i. by_slot slots (λ slot. made_of.rows slot (before slot) (sym (in_order slot).events i));
    refusals = not_refused setup before (lines_told made (entries_from first before made)) in_sequence;
    parking = not_parked setup before (lines_told made (entries_from first before made)) in_sequence;
  }

  pub answered_epoch_in_sequence : EachFrom (LineInSequence before) [] (told_in made (answered_epoch slots first before made))
  answered_epoch_in_sequence = in_sequence

  -- the events behind it are those that its lines bring
  pub behind_answered : behind before (told_in made (answered_epoch slots first before made)) ≡ behind_lines before made
  behind_answered = λ i slot. (ap (λ events. before slot ++ events) (in_order slot).events
      ∙ with_brought slot (before slot) made) i

pub answered_from_lawful : (setup : Setup) (slots first : ℕ) (before : Histories) (epochs : List (List Meaning))
    → AreEpochRuns setup slots first before epochs (answered_from slots first before epochs)
answered_from_lawful setup slots first before [] = tt
answered_from_lawful setup slots first before (made ∷ epochs) = (
  answered_epoch_lawful slots first before made setup,
  subst (λ h. AreEpochRuns setup slots (first + length made) h epochs
      (answered_from slots (first + length made) (behind_lines before made) epochs))
      (sym (behind_answered slots first before made)) (answered_from_lawful setup slots (first + length made)
      (behind_lines before made) epochs),
)

pub answered_from_in_sequence : (slots first : ℕ) (before : Histories) (epochs : List (List Meaning))
    → EpochsInSequence before epochs (answered_from slots first before epochs)
answered_from_in_sequence slots first before [] = tt
answered_from_in_sequence slots first before (made ∷ epochs) = (
  answered_epoch_in_sequence slots first before made,
  subst (λ h. EpochsInSequence h epochs (answered_from slots (first + length made) (behind_lines before made) epochs))
      (sym (behind_answered slots first before made)) (answered_from_in_sequence slots (first + length made)
      (behind_lines before made) epochs),
)

pub behind_all_answered : (slots first : ℕ) (before : Histories) (epochs : List (List Meaning))
    → behind_all before epochs (answered_from slots first before epochs) ≡ behind_epochs before epochs
behind_all_answered slots first before [] = refl
behind_all_answered slots first before (made ∷ epochs) =
    ap (λ h. behind_all h epochs (answered_from slots (first + length made) (behind_lines before made) epochs))
    (behind_answered slots first before made)
    ∙ behind_all_answered slots (first + length made) (behind_lines before made) epochs

pub answered_is_run : (setup : Setup) (slots : ℕ) (made : List (List Meaning))
    → IsRun setup slots made (answered_run slots made)
answered_is_run setup slots made = record {
  epochs = answered_from_lawful setup slots 1 no_events made;
  opens = λ i. by_slot slots (λ slot. made_of.opens slot (sym (behind_all_answered slots 1 no_events made) i slot));
}

pub answered_run_in_sequence : (slots : ℕ) (made : List (List Meaning)) → AnswersInSequence made (answered_run slots made)
answered_run_in_sequence slots made = answered_from_in_sequence slots 1 no_events made
