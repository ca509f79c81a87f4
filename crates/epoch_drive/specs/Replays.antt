-- What the subscribers make of their shares.
use Rattle.std.specs.Prelude.{◌≡◌, ℕ, ◌+◌, ◌≤◌, ◌<◌, List, [], ◌∷◌, ◌++◌, All, length, map, get_or}
use Rattle.std.specs.Prelude.{vec_capacity, vec_len}
use Rattle.std.specs.Borrow.{Bor}
use Rattle.control_steps.specs.declared.command.CommandKind.{CommandKind}
use Rattle.gate_model.specs.Events.{commands_of, packets_of}
use Rattle.gate_model.specs.declared.event.Event.{Event}
use Rattle.lawful_run.specs.Accepted as accepted
use Rattle.lawful_run.specs.Merging.{Histories}
use Rattle.lawful_run.specs.Outcomes as made_of
use Rattle.lawful_run.specs.Run.{by_slot}
use Rattle.lawful_run.specs.Telling.{counted}
use Rattle.report_lines.specs.declared.entry.ChargeEntry.TheVariants.{R}
use Rattle.subscriber.specs.Standing.{SubscriberState, Represents}
use Rattle.slot_execution.specs.Replaying.{AreLate, AreShort, CanReplay, IsLedTo, commands_lent, counts_in}
use Rattle.slot_execution.specs.Replaying.{counts_of, effects_told, events_of, latest_of, moment_of}
use Rattle.slot_execution.specs.Replaying.{numbers_in, packet_numbers_in, placed_lent, places_in, places_of}
use Rattle.slot_execution.specs.Replaying.{replies_in, verdicts_in}
use Rattle.slot_execution.specs.declared.placed.Placed.{Placed}
use Rattle.slot_execution.specs.declared.replayed.Replayed.{Replayed}
use Rattle.at_rest.specs.Meant.{AreStanding}
use Rattle.slot_execution.specs.Replaying.{rows_told}
use Rattle.epoch_drive.specs.declared.replays.SlotReplays.{SlotReplays}
use Rattle.epoch_drive.specs.declared.replays.Replays.{Replays}
use Rattle.epoch_drive.specs.declared.sharing.Share.{Share}

-- the commands and packets of a slot, none beyond the shares
abbrev pub commands_shared : Share → List CommandKind
commands_shared share = commands_lent share.commands.items

abbrev pub packets_shared : Share → List accepted.Placed
packets_shared share = placed_lent share.packets.items

abbrev pub commands_at : List Share → ℕ → List CommandKind
commands_at shares slot = get_or (map commands_shared shares) slot []

abbrev pub packets_at : List Share → ℕ → List accepted.Placed
packets_at shares slot = get_or (map packets_shared shares) slot []

-- the events of a slot behind those before
abbrev pub events_shared : List Share → ℕ → List Event → List Event
events_shared shares slot before = events_of before (commands_at shares slot) (packets_at shares slot)

-- what is told of a slot is what these events lead to
pub record IsTold (answers : SlotReplays) (slot : ℕ) (before now : List Event) : Type 0 where
  pub replies : replies_in answers.replies.items ≡ made_of.replies slot before now
  pub verdicts : verdicts_in answers.packets.items ≡ made_of.verdicts slot before now
  pub numbers : numbers_in answers.replies.items ≡ counted (length (commands_of before)) (length (commands_of now))
  pub packet_numbers : packet_numbers_in answers.packets.items
      ≡ counted (length (packets_of before)) (length (packets_of now))

-- a subscriber did its share
pub record HasDone (old new : SubscriberState) (shares : List Share) (answers : SlotReplays) (slot : ℕ) : Type 0 where
  pub represents : (before : List Event) → Represents old slot before
      → Represents new slot (before ++ events_shared shares slot before)
  pub told : (before : List Event) → Represents old slot before
      → IsTold answers slot before (events_shared shares slot before)
  pub counts : counts_in answers.packets.items
      ≡ map (λ (p : accepted.Placed). p.commands) (packets_at shares slot)
  pub places : (share : Share) → places_in answers.packets.items ≡ places_of (get_or shares slot share).packets.items
  pub moment : (share : Share) → moment_of new ≡ latest_of (moment_of old) (get_or shares slot share).packets.items
  pub destination : new.destination ≡ old.destination

-- what a subscriber does with commands and packets
pub record DoesWith (old new : SubscriberState) (commands : List (Bor CommandKind)) (packets : List Placed)
    (replayed : Replayed) : Type 0 where
  pub led : (slot : ℕ) (before : List Event) → Represents old slot before
      → IsLedTo replayed slot before (events_of before (commands_lent commands) (placed_lent packets))
  pub rows : (slot : ℕ) (before : List Event) → Represents old slot before
      → map (R slot) replayed.rows.items
      ≡ made_of.rows slot before (events_of before (commands_lent commands) (placed_lent packets))
  pub counts : counts_in replayed.packets.items ≡ counts_of packets
  pub places : places_in replayed.packets.items ≡ places_of packets
  pub short : AreShort replayed.packets.items
  pub represents : (slot : ℕ) (before : List Event) → Represents old slot before
      → Represents new slot (before ++ events_of before (commands_lent commands) (placed_lent packets))
  pub last : moment_of new ≡ latest_of (moment_of old) packets
  pub destination : new.destination ≡ old.destination

-- .. with a share
abbrev pub DoesShare : (old new : SubscriberState) → Share → Replayed → Type 0
DoesShare old new share replayed = DoesWith old new share.commands.items share.packets.items replayed

-- what a slot's share led to stands behind what is told of those before
pub record AddsReplayed (replays after : Replays) (slot : ℕ) (replayed : Replayed) : Type 0 where
  pub answers : after.answers.items ≡ replays.answers.items
      ++ record { replies = replayed.replies; packets = replayed.packets } ∷ []
  pub effects : effects_told after.effects.items ≡ effects_told replays.effects.items
      ++ effects_told replayed.effects.items
  pub rows : rows_told after.rows.items ≡ rows_told replays.rows.items ++ map (R slot) replayed.rows.items

pub record AddsShare (old new : SubscriberState) (share : Share) (replays after : Replays) (slot : ℕ) : Type 0 where
  pub replayed : Replayed
  pub does : DoesShare old new share replayed
  pub adds : AddsReplayed replays after slot replayed

-- there is room for what is told of one slot more, and as much in all as before
abbrev pub HasRoom : Replays → Type 0
HasRoom replays = vec_len replays.answers < vec_capacity replays.answers

abbrev pub KeepsRoom : (replays after : Replays) → Type 0
KeepsRoom replays after = vec_capacity after.answers ≡ vec_capacity replays.answers

-- verdicts on packets are short
abbrev pub AreShortAnswers : SlotReplays → Type 0
AreShortAnswers answers = AreShort answers.packets.items

-- the subscribers of the first slots did theirs
pub record HaveDone (old new : List SubscriberState) (shares : List Share) (replays : Replays) (done : ℕ) :
    Type 0 where
  pub many : length new ≡ length old
  pub answered : length replays.answers.items ≡ done
  pub each : (slot : ℕ) (none : SubscriberState) (no_answers : SlotReplays) → slot < done
      → HasDone (get_or old slot none) (get_or new slot none) shares (get_or replays.answers.items slot no_answers) slot
  pub later : (slot : ℕ) (none : SubscriberState) → done ≤ slot → get_or new slot none ≡ get_or old slot none
  pub effects : (before : Histories) → AreStanding old before → effects_told replays.effects.items
      ≡ by_slot done (λ slot. made_of.effects slot (before slot) (events_shared shares slot (before slot)))
  pub rows : (before : Histories) → AreStanding old before → rows_told replays.rows.items
      ≡ by_slot done (λ slot. made_of.rows slot (before slot) (events_shared shares slot (before slot)))
  pub short : All AreShortAnswers replays.answers.items

-- each subscriber can do its share
pub record CanDo (subscriber : SubscriberState) (share : Share) : Type 0 where
  pub room : ∥ CanReplay subscriber (length share.commands.items + length share.packets.items) ∥₁
  pub late : AreLate (moment_of subscriber) share.packets.items

abbrev pub AllCanDo : List SubscriberState → List Share → Type 0
AllCanDo subscribers shares = (slot : ℕ) (none : SubscriberState) (share : Share) → slot < length subscribers
    → CanDo (get_or subscribers slot none) (get_or shares slot share)
