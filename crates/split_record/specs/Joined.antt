-- The items of a subscriber come from the lines of an epoch: then what its halves come to are the epoch's events of its
-- slot.
use Rattle.std.specs.Prelude.{◌≡◌, ℕ, ◌+◌, List, [], ◌∷◌, length, map}
use Rattle.pc_base.specs.declared.packet.Packet.{Packet}
use Rattle.demux.specs.Packets.{numbered}
use Rattle.gate_model.specs.Events.{commands_of, packets_of}
use Rattle.gate_model.specs.declared.event.Event.{Event}
use Rattle.lawful_run.specs.Accepted.{Placed, commands_accepted, packets_accepted}
use Rattle.lawful_run.specs.LinesTold.{LineTold}
use Rattle.lawful_run.specs.Merging.{merged, events_in}
use Rattle.subscriber.specs.Standing.{SubscriberState, StandsFor}
use Rattle.control_half.specs.declared.items.CommandItem.{CommandItem}
use Rattle.counter_half.specs.declared.items.DataItem.{DataItem}
use Rattle.counter_half.specs.declared.items.PacketDone.{PacketDone}
use Rattle.split_record.specs.Finishing.{commands_in, counts_told, events_told}

-- the packets of some lines, numbered from a count on
abbrev pub numbered_from : ℕ → List Placed → List Packet
numbered_from next [] = []
numbered_from next (placed ∷ later) = numbered next placed.packet ∷ numbered_from (next + 1) later

-- they meet so many commands, whatever their lines tell so far
abbrev pub with_counts : List ℕ → List Placed → List Placed
with_counts counts [] = []
with_counts [] (placed ∷ later) = record { commands = 0; packet = placed.packet } ∷ with_counts [] later
with_counts (count ∷ counts) (placed ∷ later) =
    record { commands = count; packet = placed.packet } ∷ with_counts counts later

-- the commands and packets of a slot that an epoch's lines brought and that were accepted, these numbered from a count
-- on
pub record AreOfLines (slot next : ℕ) (lines : List LineTold) (commands : List CommandItem) (items : List DataItem)
    : Type 0 where
  pub commands_are : commands_in commands ≡ commands_accepted slot lines
  pub packets_are : map (λ (item : DataItem). item.packet) items ≡ numbered_from next (packets_accepted slot lines)

-- the epoch's events of a slot, where its packets meet so many commands
abbrev pub events_met : ℕ → List Event → List LineTold → List ℕ → List Event
events_met slot before lines counts =
    merged (length (commands_of before)) (length (packets_of before)) (commands_accepted slot lines)
    (with_counts counts (packets_accepted slot lines))

-- the events that the halves tell are the epoch's, at the counts that they noted
abbrev pub EventsAreOfLines : Type 0
EventsAreOfLines = (start : SubscriberState) (slot : ℕ) (before : List Event) (taken : ℕ) (lines : List LineTold)
    (commands : List CommandItem) (items : List DataItem) (judged : List PacketDone)
    → StandsFor start slot before taken → AreOfLines slot start.packets lines commands items
    → events_told start commands items judged ≡ events_met slot before lines (counts_told judged)

-- where the lines tell these counts, they are those of the lawful run
abbrev pub CountsAreTold : Type 0
CountsAreTold = (slot : ℕ) (before : List Event) (lines : List LineTold) (counts : List ℕ)
    → map (λ (placed : Placed). placed.commands) (packets_accepted slot lines) ≡ counts
    → events_met slot before lines counts ≡ events_in before lines slot
