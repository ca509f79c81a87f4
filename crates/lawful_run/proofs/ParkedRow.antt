-- Slices, worked: an instruction, a move, two packets that wait for it, and a third that finds their queue full.
use Rattle.std.proofs.Common.{◌≡◌, ℕ, Bool, true, IsTrue, List, [], ◌∷◌, length, refl, arith, inr}
use Rattle.std.specs.List.{filter_map}
use Rattle.demux.specs.Trace.{Meaning}
use Rattle.gate_model.specs.SlotPast.{happens}
use Rattle.rate_policer.specs.Conforming.{conforms}
use Rattle.std.proofs.lemmas.List.Elements.{All-nil, All-cons}
use Rattle.lawful_run.specs.Accepted.{commands_accepted, packets_accepted}
use Rattle.lawful_run.specs.Bounds.{Rises}
use Rattle.lawful_run.specs.Setup.{sliced}
use Rattle.lawful_run.specs.Merging.{events_in}
use Rattle.lawful_run.specs.Outcomes as made_of
use Rattle.lawful_run.specs.Report.{EpochReport}
use Rattle.lawful_run.specs.Run.{IsRun, told_in}
use Rattle.lawful_run.specs.Telling.{command_number, packet_number, commands_told, reply_told, verdict_told, counted}
use Rattle.lawful_run.specs.Worked.{attach, uplink, moved, attached, forwarded_parked, refused_packet, moved_entry, open_with, epoch_of, report_of}
use Rattle.lawful_run.proofs.SlotCases.{at_slot}

abbrev were_parked : Bool → Type 0
were_parked parked = IsTrue parked

abbrev made : List Meaning
made = attach 0 ∷ moved ∷ uplink ∷ uplink ∷ uplink ∷ []

abbrev told : EpochReport
told = epoch_of (attached 1 0 0 ∷ moved_entry 2 ∷ forwarded_parked 3 0 1 ∷ forwarded_parked 4 1 1
    ∷ refused_packet 5 ∷ [])

command_numbers : (slot : ℕ) → filter_map (command_number slot) told.lines
    ≡ counted 0 (length (commands_accepted slot (told_in made told)))
command_numbers slot =
    at_slot (λ s. filter_map (command_number s) told.lines
    ≡ counted 0 (length (commands_accepted s (told_in made told)))) 0 slot refl (λ other. rw other refl)

packet_numbers : (slot : ℕ) → filter_map (packet_number slot) told.lines
    ≡ counted 0 (length (packets_accepted slot (told_in made told)))
packet_numbers slot =
    at_slot (λ s. filter_map (packet_number s) told.lines
    ≡ counted 0 (length (packets_accepted s (told_in made told)))) 0 slot refl (λ other. rw other refl)

counts_rise : (slot : ℕ) → Rises 0 (filter_map (commands_told slot) told.lines)
counts_rise slot =
    at_slot (λ s. Rises 0 (filter_map (commands_told s) told.lines)) 0 slot (omega arith, (omega arith, tt))
    (λ other. rw other tt)

replies : (slot : ℕ) → filter_map (reply_told slot) told.lines
    ≡ made_of.replies slot [] (events_in [] (told_in made told) slot)
unfolding happens conforms
replies slot =
    at_slot (λ s. filter_map (reply_told s) told.lines
    ≡ made_of.replies s [] (events_in [] (told_in made told) s)) 0 slot refl (λ other. rw other refl)

verdicts : (slot : ℕ) → filter_map (verdict_told slot) told.lines
    ≡ made_of.verdicts slot [] (events_in [] (told_in made told) slot)
unfolding happens conforms
verdicts slot =
    at_slot (λ s. filter_map (verdict_told s) told.lines
    ≡ made_of.verdicts s [] (events_in [] (told_in made told) s)) 0 slot refl (λ other. rw other refl)

parked_on_the_way : IsRun (sliced 2 2 1024) 1 (made ∷ []) (report_of (told ∷ []) (open_with 40 2 ∷ []))
unfolding happens conforms
parked_on_the_way = record {
  epochs = (
    record {
      one_each = ((refl, refl), (refl, ((refl, refl), ((refl, refl), (refl, tt)))));
      command_numbers = command_numbers;
      packet_numbers = packet_numbers;
      counts_rise = counts_rise;
      bounds = (tt, (tt, ((omega arith, omega arith), ((omega arith, omega arith), (tt, tt)))));
      replies = replies;
      verdicts = verdicts;
      effects = refl;
      rows = refl;
      refusals = (tt, (tt, (tt, (tt, (inr (refl, omega arith), tt)))));
      parking = (
        tt,
        (
          tt,
          (
            (refl, All-nil were_parked),
            ((refl, All-cons were_parked true [] refl (All-nil were_parked)), (tt, tt)),
          ),
        ),
      );
    },
    tt,
  );
  opens = refl;
}
