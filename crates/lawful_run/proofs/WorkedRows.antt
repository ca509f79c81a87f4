-- Worked rows of the definitions: small reports that are lawful, and such as aren't.
use Rattle.std.proofs.Common.{◌≡◌, ℕ, false, IsTrue, List, [], ◌∷◌, refl, ap, subst, arith, inl, inr}
use Rattle.gate_model.specs.SlotPast.{happens}
use Rattle.rate_policer.specs.Conforming.{conforms}
use Rattle.report_lines.specs.declared.entry.ChargeEntry.{ChargeEntry}
use Rattle.report_lines.specs.declared.entry.ChargeEntry.TheVariants.{R, O}
use Rattle.lawful_run.specs.AnsweredRun.{answered_run}
use Rattle.lawful_run.specs.Setup.{Setup, solo, sliced}
use Rattle.lawful_run.specs.Run.{IsRun}
use Rattle.lawful_run.specs.Worked.{attach, rerate, uplink, moved, attached, forwarded, forwarded_parked, refused_command, refused_packet, moved_entry, open_with, open_again, gone_row, epoch_of, epoch_with, report_of, answered_late, nothing_counted}
use Rattle.lawful_run.proofs.EveryTrace.{answered_is_run}

-- the first number of a list, and the slot of its first record
abbrev first_of : List ℕ → ℕ
first_of [] = 0
first_of (n ∷ ns) = n

abbrev first_slot : List ChargeEntry → ℕ
first_slot [] = 0
first_slot (R slot row ∷ others) = slot
first_slot (O slot counters ∷ others) = slot

untrue : IsTrue false → ⊥
untrue is = cc

-- An instruction to attach and a packet: answered in sequence, this is lawful under any setup.
answered : answered_run 1 ((attach 0 ∷ uplink ∷ []) ∷ [])
    ≡ report_of (epoch_of (attached 1 0 0 ∷ forwarded 2 0 1 ∷ []) ∷ []) (open_with 20 1 ∷ [])
unfolding happens conforms
answered = refl

attach_and_uplink : (setup : Setup)
    → IsRun setup 1 ((attach 0 ∷ uplink ∷ []) ∷ []) (report_of (epoch_of (attached 1 0 0 ∷ forwarded 2 0 1 ∷ [])
    ∷ []) (open_with 20 1 ∷ []))
attach_and_uplink setup = subst (IsRun setup 1 ((attach 0 ∷ uplink ∷ []) ∷ [])) answered
    (answered_is_run setup 1 ((attach 0 ∷ uplink ∷ []) ∷ []))

-- The packet can't have met no command: the order came in an epoch before, or before a move.
stale_after_epoch : (slices room lane : ℕ) (opens : List ChargeEntry)
    → IsRun (sliced slices room lane) 1 ((attach 0 ∷ []) ∷ (uplink ∷ []) ∷ [])
    (report_of (epoch_of (attached 1 0 0 ∷ []) ∷ epoch_of (forwarded 2 0 0 ∷ []) ∷ []) opens) → ⊥
stale_after_epoch slices room lane opens run = absurd (omega (arith, run.epochs.1.0.bounds.0.0))

stale_after_move : (slices room lane : ℕ) (opens : List ChargeEntry)
    → IsRun (sliced slices room lane) 1 ((attach 0 ∷ moved ∷ uplink ∷ []) ∷ [])
    (report_of (epoch_of (attached 1 0 0 ∷ moved_entry 2 ∷ forwarded 3 0 0 ∷ []) ∷ []) opens) → ⊥
stale_after_move slices room lane opens run = absurd (omega (arith, run.epochs.0.bounds.1.1.0.0))

-- It may have met the order that came behind it in its epoch, but not one behind a move that follows it.
early_before_move : (slices room lane : ℕ) (opens : List ChargeEntry)
    → IsRun (sliced slices room lane) 1 ((attach 0 ∷ uplink ∷ moved ∷ rerate ∷ []) ∷ [])
    (report_of (epoch_of (attached 1 0 0 ∷ forwarded 2 0 2 ∷ moved_entry 3 ∷ attached 4 0 1 ∷ []) ∷ []) opens) → ⊥
early_before_move slices room lane opens run = absurd (omega (arith, run.epochs.0.bounds.1.0.1))

-- One thread lets a packet meet just the commands before it.
late_on_one_thread : (opens : List ChargeEntry)
    → IsRun solo 1 ((attach 0 ∷ uplink ∷ rerate ∷ []) ∷ [])
    (report_of (epoch_of (attached 1 0 0 ∷ forwarded 2 0 2 ∷ attached 3 0 1 ∷ []) ∷ []) opens) → ⊥
late_on_one_thread opens run = absurd (omega (arith, run.epochs.0.bounds.1.0))

-- A command isn't refused while its queue has room for two and has one, nor is anything on one thread.
refused_with_room : (slices lane : ℕ) (opens : List ChargeEntry)
    → IsRun (sliced slices 2 lane) 1 ((attach 0 ∷ rerate ∷ []) ∷ [])
    (report_of (epoch_of (attached 1 0 0 ∷ refused_command 2 ∷ []) ∷ []) opens) → ⊥
refused_with_room slices lane opens run = absurd (omega (arith, run.epochs.0.refusals.1.0))

refused_on_one_thread : (opens : List ChargeEntry)
    → IsRun solo 1 ((attach 0 ∷ rerate ∷ []) ∷ []) (report_of (epoch_of (attached 1 0 0 ∷ refused_command 2 ∷ [])
    ∷ []) opens) → ⊥
refused_on_one_thread opens run = run.epochs.0.refusals.1.0

-- A packet isn't refused while its lane holds three items and can have been given two: an arrival, and a packet.
refused_packet_with_room : (slices room : ℕ) (opens : List ChargeEntry)
    → IsRun (sliced slices room 3) 1 ((attach 0 ∷ uplink ∷ uplink ∷ []) ∷ [])
    (report_of (epoch_of (attached 1 0 0 ∷ forwarded 2 0 1 ∷ refused_packet 3 ∷ []) ∷ []) opens) → ⊥
refused_packet_with_room slices room opens run = elim run.epochs.0.refusals.1.1.0 [
  | inl full ↦ absurd (omega (arith, full))
  | inr parked ↦ untrue parked.0
]

-- A packet isn't parked without a move, nor behind one that isn't.
parked_without_move : (setup : Setup) (opens : List ChargeEntry)
    → IsRun setup 1 ((attach 0 ∷ uplink ∷ []) ∷ []) (report_of
    (epoch_of (attached 1 0 0 ∷ forwarded_parked 2 0 1 ∷ []) ∷ []) opens) → ⊥
parked_without_move setup opens run = untrue run.epochs.0.parking.1.0.0

-- The commands of a slot are numbered from 0 on, and each line has its entry.
number_left_out : (setup : Setup) (opens : List ChargeEntry)
    → IsRun setup 1 ((attach 0 ∷ []) ∷ []) (report_of (epoch_of (attached 1 0 1 ∷ []) ∷ []) opens) → ⊥
number_left_out setup opens run =
    let is : 1 ≡ 0 = ap first_of (run.epochs.0.command_numbers 0) in absurd (omega (arith, is))

entry_left_out : (setup : Setup) (opens : List ChargeEntry)
    → IsRun setup 1 ((attach 0 ∷ uplink ∷ []) ∷ []) (report_of (epoch_of (attached 1 0 0 ∷ []) ∷ []) opens) → ⊥
entry_left_out setup opens run = run.epochs.0.one_each.1

-- Two subscribers attach, and attach again: the records of an epoch stand by slot.
records_by_slot : answered_run 2 ((attach 0 ∷ attach 1 ∷ attach 1 ∷ attach 0 ∷ []) ∷ []) ≡ report_of
    (epoch_with (attached 1 0 0 ∷ attached 2 1 0 ∷ attached 3 1 1 ∷ attached 4 0 1 ∷ []) (gone_row 0 ∷ gone_row 1
    ∷ []) ∷ [])
    (open_again 0 ∷ open_again 1 ∷ [])
unfolding happens
records_by_slot = refl

records_out_of_order : (setup : Setup) (opens : List ChargeEntry)
    → IsRun setup 2 ((attach 0 ∷ attach 1 ∷ attach 1 ∷ attach 0 ∷ []) ∷ []) (report_of
    (epoch_with (attached 1 0 0 ∷ attached 2 1 0 ∷ attached 3 1 1 ∷ attached 4 0 1 ∷ []) (gone_row 1 ∷ gone_row 0
    ∷ []) ∷ []) opens) → ⊥
unfolding happens
records_out_of_order setup opens run = let is : 1 ≡ 0 = ap first_slot run.epochs.0.rows in absurd (omega (arith, is))

-- The open counters of a slot stand by index, whichever bearer became active first.
opens_by_index : (answered_run 1 (answered_late ∷ [])).opens ≡ nothing_counted 0 5 ∷ nothing_counted 1 6
    ∷ nothing_counted 2 7 ∷ []
unfolding happens
opens_by_index = refl
