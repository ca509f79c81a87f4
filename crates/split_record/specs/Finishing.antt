-- What the halves of a subscriber come to, once they have nothing left to do.
use Rattle.std.specs.Prelude.{◌≡◌, ℕ, ◌+◌, ◌-◌, ◌≤◌, true, List, [], ◌∷◌, ◌++◌, length, map, take, drop, All}
use Rattle.std.specs.Prelude.{flat_map}
use Rattle.charging_book.specs.Rows.{Charged}
use Rattle.control_steps.specs.declared.command.CommandKind.{CommandKind}
use Rattle.gate_model.specs.declared.event.Event.{Event}
use Rattle.gate_model.specs.SlotPast.{records_after}
use Rattle.lawful_run.specs.Outcomes.{replies, verdicts, effects}
use Rattle.lawful_run.specs.Telling.{counted}
use Rattle.subscriber.specs.Standing.{SubscriberState, StandsFor, commands_met, last_of}
use Rattle.control_half.specs.declared.items.CommandItem.{CommandItem}
use Rattle.control_half.specs.declared.items.CommandDone.{CommandDone}
use Rattle.counter_half.specs.declared.items.DataItem.{DataItem}
use Rattle.counter_half.specs.declared.items.PacketDone.{PacketDone}
use Rattle.counter_half.specs.declared.items.VersionDone.{VersionDone}
use Rattle.counter_half.specs.Handled.{Handled, noted, note_of}
use Rattle.counter_half.specs.Interleaved.{rises}
use Rattle.counter_half.specs.Tells.{events_made, effect_entries, last_moment}

-- each item with how many commands stand before it
abbrev pub handled_as : List DataItem → List ℕ → List Handled
handled_as [] counts = []
handled_as (item ∷ items) [] = (item, 0) ∷ handled_as items []
handled_as (item ∷ items) (count ∷ counts) = (item, count) ∷ handled_as items counts

abbrev pub commands_in : List CommandItem → List CommandKind
commands_in items = map (λ (item : CommandItem). item.command) items

abbrev pub counts_told : List PacketDone → List ℕ
counts_told notes = map (λ (d : PacketDone). d.commands) notes

-- the events since the split, in the order that the verdicts tell
abbrev pub events_told : SubscriberState → List CommandItem → List DataItem → List PacketDone → List Event
events_told start commands items notes =
    events_made start (commands_in commands) (handled_as items (counts_told notes))

-- each packet has at least the commands of its floor before it, and each command before it has a floor of at most the
-- packet's number
abbrev pub AreBounded : ℕ → List CommandItem → List Handled → Type 0
AreBounded first commands handled = All (λ (h : Handled). (h.0.floor ≤ h.1)
    × All (λ (c : CommandItem). c.floor ≤ h.0.number) (take (h.1 - first) commands)) handled

-- As many of the first commands as a packet's number allows by their floors stand before it.
abbrev pub MeetsAll : ℕ → List CommandItem → Handled → Type 0
MeetsAll first commands h = (k : ℕ) → k ≤ length commands
    → All (λ (c : CommandItem). c.floor ≤ h.0.number) (take k commands) → first + k ≤ h.1

-- so it is of all items behind so many
abbrev pub AllMeetBehind : ℕ → ℕ → List CommandItem → List Handled → Type 0
AllMeetBehind early first commands handled = (before : List Handled) (h : Handled) (after : List Handled)
    → handled ≡ before ++ h ∷ after → early ≤ length before → MeetsAll first commands h

-- A subscriber was split, and these commands and items were accepted since. What came of them is what the one-thread
-- gateway makes of them in the order told, behind the events before the split; and one record represents them all.
pub record Comes (start : SubscriberState) (slot : ℕ) (before : List Event) (taken : ℕ) (commands : List CommandItem)
    (items : List DataItem) (record_now : SubscriberState) (replied : List CommandDone) (judged : List PacketDone)
    (done : List VersionDone) (rows : List Charged) : Type 0 where
  pub stands : StandsFor record_now slot (before ++ events_told start commands items judged)
      (length (records_after slot (before ++ events_told start commands items judged)))
  pub replies_are : map (λ (d : CommandDone). d.reply) replied
      ≡ replies slot before (events_told start commands items judged)
  pub verdicts_are : map (λ (d : PacketDone). d.verdict) judged
      ≡ verdicts slot before (events_told start commands items judged)
  pub effects_are : flat_map (effect_entries slot) done ≡ effects slot before (events_told start commands items judged)
  pub last_is : last_of record_now ≡ last_moment (last_of start) (map (λ (i : DataItem). i.packet.moment) items)
  pub rows_are : rows ≡ drop taken (records_after slot (before ++ events_told start commands items judged))

-- What is noted, whatever stood before: each command and each item once, in order, under its number and its line; and
-- the counts of commands before packets lie within their bounds.
pub record Notes (start : SubscriberState) (commands : List CommandItem) (items : List DataItem)
    (replied : List CommandDone) (judged : List PacketDone) : Type 0 where
  pub numbers : map (λ (d : CommandDone). d.number) replied ≡ counted (commands_met start) (length commands)
  pub lines : map (λ (d : CommandDone). d.line) replied ≡ map (λ (c : CommandItem). c.line) commands
  pub items_noted : map noted judged ≡ map note_of (handled_as items (counts_told judged))
  pub rising : rises (commands_met start) (commands_met start + length commands) (counts_told judged) ≡ true
  pub bounded : AreBounded (commands_met start) commands (handled_as items (counts_told judged))
