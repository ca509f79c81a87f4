-- Lanes and queues, worked: where they are full to the last place, and where one place is left.
use Rattle.std.proofs.Common.{◌≡◌, ℕ, false, IsTrue, List, [], ◌∷◌, length, refl, arith, inl, inr}
use Rattle.std.specs.List.{filter_map}
use Rattle.std.specs.Prelude.{Bool}
use Rattle.std.proofs.lemmas.List.Elements.{All-head}
use Rattle.demux.specs.Line.{asked}
use Rattle.demux.specs.Resolved.{resolved}
use Rattle.demux.specs.Texts.{move_note}
use Rattle.demux.specs.Trace.{Meaning, move, note}
use Rattle.gate_model.specs.SlotPast.{happens}
use Rattle.rate_policer.specs.Conforming.{conforms}
use Rattle.report_lines.specs.declared.entry.ChargeEntry.{ChargeEntry}
use Rattle.lawful_run.specs.Accepted.{commands_accepted, packets_accepted}
use Rattle.lawful_run.specs.Bounds.{Rises}
use Rattle.lawful_run.specs.Setup.{Setup, sliced}
use Rattle.lawful_run.specs.Merging.{events_in}
use Rattle.lawful_run.specs.Outcomes as made_of
use Rattle.lawful_run.specs.Report.{EpochReport}
use Rattle.lawful_run.specs.Run.{IsRun, told_in}
use Rattle.lawful_run.specs.Telling.{command_number, packet_number, commands_told, reply_told, verdict_told, counted}
use Rattle.lawful_run.specs.Trace.{meant_from}
use Rattle.lawful_run.specs.Worked.{attach, attach_line, attached, epoch_of, forwarded, forwarded_parked, move_line}
use Rattle.lawful_run.specs.Worked.{moved, moved_entry, open_with, refused_command, refused_packet, refused_packet_of}
use Rattle.lawful_run.specs.Worked.{report_of, rerate, uplink, uplink_of}
use Rattle.lawful_run.proofs.SlotCases.{at_slot}

untrue : IsTrue false → ⊥
untrue is = cc

-- A packet of a second subscriber comes behind a packet and a move of the first one: their lanes may have been given
-- the packet, an arrival for each of both, a leave and an arrival for the move. These are five items.
abbrev met : List Meaning
met = attach 0 ∷ uplink ∷ moved ∷ uplink_of 1 ∷ []

abbrev told : EpochReport
told = epoch_of (attached 1 0 0 ∷ forwarded 2 0 1 ∷ moved_entry 3 ∷ refused_packet_of 1 4 ∷ [])

command_numbers : (slot : ℕ) → filter_map (command_number slot) told.lines
    ≡ counted 0 (length (commands_accepted slot (told_in met told)))
command_numbers slot =
    at_slot (λ s. filter_map (command_number s) told.lines
    ≡ counted 0 (length (commands_accepted s (told_in met told)))) 0 slot refl (λ other. rw other refl)

packet_numbers : (slot : ℕ) → filter_map (packet_number slot) told.lines
    ≡ counted 0 (length (packets_accepted slot (told_in met told)))
packet_numbers slot =
    at_slot (λ s. filter_map (packet_number s) told.lines
    ≡ counted 0 (length (packets_accepted s (told_in met told)))) 0 slot refl (λ other. rw other refl)

counts_rise : (slot : ℕ) → Rises 0 (filter_map (commands_told slot) told.lines)
counts_rise slot =
    at_slot (λ s. Rises 0 (filter_map (commands_told s) told.lines)) 0 slot (omega arith, tt) (λ other. rw other tt)

replies : (slot : ℕ) → filter_map (reply_told slot) told.lines
    ≡ made_of.replies slot [] (events_in [] (told_in met told) slot)
unfolding happens conforms
replies slot =
    at_slot (λ s. filter_map (reply_told s) told.lines
    ≡ made_of.replies s [] (events_in [] (told_in met told) s)) 0 slot refl (λ other. rw other refl)

verdicts : (slot : ℕ) → filter_map (verdict_told slot) told.lines
    ≡ made_of.verdicts slot [] (events_in [] (told_in met told) slot)
unfolding happens conforms
verdicts slot =
    at_slot (λ s. filter_map (verdict_told s) told.lines
    ≡ made_of.verdicts s [] (events_in [] (told_in met told) s)) 0 slot refl (λ other. rw other refl)

-- A lane of five may refuse it ..
refused_at_a_full_lane : IsRun (sliced 2 2 5) 2 (met ∷ []) (report_of (told ∷ []) (open_with 20 1 ∷ []))
unfolding happens conforms
refused_at_a_full_lane = record {
  epochs = (
    record {
      one_each = ((refl, refl), ((refl, refl), (refl, (refl, tt))));
      command_numbers = command_numbers;
      packet_numbers = packet_numbers;
      counts_rise = counts_rise;
      bounds = (tt, ((omega arith, omega arith), (tt, (tt, tt))));
      replies = replies;
      verdicts = verdicts;
      effects = refl;
      rows = refl;
      refusals = (tt, (tt, (tt, (inl (omega arith), tt))));
      parking = (tt, (tt, (tt, (tt, tt))));
    },
    tt,
  );
  opens = refl;
}

-- .. and one of six may not.
refused_with_a_place_left : (slices room : ℕ) (opens : List ChargeEntry)
    → IsRun (sliced slices room 6) 2 (met ∷ []) (report_of (told ∷ []) opens) → ⊥
refused_with_a_place_left slices room opens run = elim run.epochs.0.refusals.1.1.1.0 [
  | inl full ↦ absurd (omega (arith, full))
  | inr parked ↦ untrue parked.0
]

-- A command may be refused where its queue has as many as it has room for, though not on one thread.
abbrev refused_told : EpochReport
refused_told = epoch_of (attached 1 0 0 ∷ refused_command 2 ∷ [])

abbrev rerated : List Meaning
rerated = attach 0 ∷ rerate ∷ []

refused_numbers : (slot : ℕ) → filter_map (command_number slot) refused_told.lines
    ≡ counted 0 (length (commands_accepted slot (told_in rerated refused_told)))
refused_numbers slot =
    at_slot (λ s. filter_map (command_number s) refused_told.lines
    ≡ counted 0 (length (commands_accepted s (told_in rerated refused_told)))) 0 slot refl (λ other. rw other refl)

refused_replies : (slot : ℕ) → filter_map (reply_told slot) refused_told.lines
    ≡ made_of.replies slot [] (events_in [] (told_in rerated refused_told) slot)
unfolding happens conforms
refused_replies slot =
    at_slot (λ s. filter_map (reply_told s) refused_told.lines
    ≡ made_of.replies s [] (events_in [] (told_in rerated refused_told) s)) 0 slot refl (λ other. rw other refl)

refused_verdicts : (slot : ℕ) → filter_map (verdict_told slot) refused_told.lines
    ≡ made_of.verdicts slot [] (events_in [] (told_in rerated refused_told) slot)
unfolding happens conforms
refused_verdicts slot =
    at_slot (λ s. filter_map (verdict_told s) refused_told.lines
    ≡ made_of.verdicts s [] (events_in [] (told_in rerated refused_told) s)) 0 slot refl (λ other. rw other refl)

refused_at_a_full_queue : (slices lane : ℕ)
    → IsRun (sliced slices 1 lane) 1 (rerated ∷ []) (report_of (refused_told ∷ []) (open_with 0 0 ∷ []))
unfolding happens conforms
refused_at_a_full_queue slices lane = record {
  epochs = (
    record {
      one_each = ((refl, refl), (refl, tt));
      command_numbers = refused_numbers;
      packet_numbers = λ slot. refl;
      counts_rise = λ slot. tt;
      bounds = (tt, (tt, tt));
      replies = refused_replies;
      verdicts = refused_verdicts;
      effects = refl;
      rows = refl;
      refusals = (tt, (omega arith, tt));
      parking = (tt, (tt, tt));
    },
    tt,
  );
  opens = refl;
}

-- A queue with room for two that has one packet refuses none that would be parked.
parked_with_room : (slices : ℕ) (opens : List ChargeEntry)
    → IsRun (sliced slices 2 1024) 1 ((attach 0 ∷ moved ∷ uplink ∷ uplink ∷ []) ∷ []) (report_of
    (epoch_of (attached 1 0 0 ∷ moved_entry 2 ∷ forwarded_parked 3 0 1 ∷ refused_packet 4 ∷ []) ∷ []) opens) → ⊥
parked_with_room slices opens run = elim run.epochs.0.refusals.1.1.1.0 [
  | inl full ↦ absurd (omega (arith, full))
  | inr parked ↦ absurd (omega (arith, parked.1))
]

-- A packet isn't parked behind one of its slot that wasn't, where both stand behind the same move.
abbrev was_parked : Bool → Type 0
was_parked parked = IsTrue parked

parked_behind_one_that_was_not : (setup : Setup) (opens : List ChargeEntry)
    → IsRun setup 1 ((attach 0 ∷ moved ∷ uplink ∷ uplink ∷ []) ∷ []) (report_of
    (epoch_of (attached 1 0 0 ∷ moved_entry 2 ∷ forwarded 3 0 1 ∷ forwarded_parked 4 1 1 ∷ []) ∷ []) opens) → ⊥
parked_behind_one_that_was_not setup opens run =
    untrue (All-head was_parked false [] run.epochs.0.parking.1.1.1.0.1)

-- A subscriber of slot 0 is at home on slice 0. A move to where it is bound for moves nothing, and is noted.
moved_where_it_is : meant_from 2 [] (attach_line ∷ move_line 2 0 ∷ move_line 3 1 ∷ move_line 4 1 ∷ move_line 5 0 ∷ [])
    ≡ attach 0 ∷ note (move_note 0 0 0) ∷ move 0 1 (move_note 0 0 1) ∷ note (move_note 1 0 1)
    ∷ move 0 0 (move_note 1 0 0) ∷ []
unfolding resolved asked
moved_where_it_is = refl
