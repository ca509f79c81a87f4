-- What is told of a slot that nothing came of.
use Rattle.std.proofs.Common.{◌≡◌, ℕ, ◌≤◌, List, [], ◌∷◌, length, map, drop, refl, sym, ap, subst, ◌∙◌, append-nil}
use Rattle.std.specs.List.{AllZip}
use Rattle.std.proofs.lemmas.List.Elements.{All-nil}
use Rattle.gate_model.specs.Events.{commands_of, packets_of}
use Rattle.gate_model.specs.SlotPast.{records_after}
use Rattle.gate_model.specs.declared.event.Event.{Event}
use Rattle.lawful_run.specs.Accepted.{Placed, packets_accepted}
use Rattle.lawful_run.specs.LinesTold.{LineTold}
use Rattle.lawful_run.specs.Merging.{merged}
use Rattle.lawful_run.specs.Outcomes as made_of
use Rattle.lawful_run.specs.Telling.{counted}
use Rattle.report_lines.specs.declared.entry.ChargeEntry.TheVariants.{R}
use Rattle.lawful_run.specs.Filling.{Met}
use Rattle.lawful_run.specs.Floors.{command_floors}
use Rattle.lawful_run.specs.Joined.{MeetsFloors, SlotTold, events_met}
use Rattle.front_core.specs.Kept.{EndsTold, new_ends}

pub none_mapped : {X Y : Type 0} (f : X → Y) (xs : List X) → [] ≡ map f xs → xs ≡ []
none_mapped f [] none = refl
none_mapped f (x ∷ xs) none = absurd (let no : ⊥ = cc in no)

all_dropped : {X : Type 0} (xs : List X) → drop (length xs) xs ≡ []
all_dropped [] = refl
all_dropped (x ∷ xs) = all_dropped xs

module _ (slot : ℕ) (before : List Event) (told : List LineTold)
    (ends : EndsTold slot (new_ends (length (commands_of before)) (length (packets_of before))) told) where
  no_packets : packets_accepted slot told ≡ []
  no_packets = none_mapped (λ (p : Placed). p.packet) (packets_accepted slot told) ends.packets_are

  pub no_events : events_met slot before told [] ≡ []
  no_events = λ i. merged (length (commands_of before)) (length (packets_of before)) (sym ends.commands_are i)
      (no_packets i)

  pub rests_told : SlotTold slot before told [] []
  rests_told = record {
    numbers = λ i. counted (length (commands_of before)) (length (ends.commands_are i));
    packet_numbers = λ i. counted (length (packets_of before)) (length (sym no_packets i));
    rises = tt;
    least = subst (λ (floors : List ℕ). AllZip (λ (floor : ℕ) (met : Met). floor ≤ met.commands) floors [])
        ends.packet_floors_are tt;
    most = All-nil (MeetsFloors (length (commands_of before))
        (command_floors slot (length (packets_of before)) [] told));
    replies = ap (made_of.replies slot before) (sym no_events);
    verdicts = ap (made_of.verdicts slot before) (sym no_events);
  }

pub no_rows : (slot : ℕ) (before : List Event) → made_of.rows slot before [] ≡ []
no_rows slot before =
    ap (λ (events : List Event). map (R slot) (drop (length (records_after slot before)) (records_after slot events)))
    (append-nil before)
    ∙ ap (map (R slot)) (all_dropped (records_after slot before))
