-- What a clause says of a subscriber that is split, and of one that is whole again.
use Rattle.std.specs.Prelude.{◌≡◌, ℕ, ◌+◌, List, [], ◌∷◌, ◌++◌, length, map, All, unwrap_or}
use Rattle.lane_core.specs.Ends.{sender_lane, sent, full_answers}
use Rattle.pc_base.specs.declared.packet.Packet.{Packet}
use Rattle.control_steps.specs.declared.command.CommandKind.{CommandKind}
use Rattle.gate_model.specs.declared.event.Event.{Event}
use Rattle.gate_model.specs.Events.{FewEvents}
use Rattle.subscriber.specs.Standing.{SubscriberState, StandsFor, commands_met, last_of}
use Rattle.control_half.specs.declared.half.ControlHalf.{ControlHalf}
use Rattle.control_half.specs.Half as control
use Rattle.control_half.specs.declared.items.CommandItem.{CommandItem}
use Rattle.counter_half.specs.declared.half.DataHalf.{DataHalf}
use Rattle.counter_half.specs.declared.items.DataItem.{DataItem}
use Rattle.counter_half.specs.Half as data_half
use Rattle.counter_half.specs.Tells.{AreLate}
use Rattle.split_record.specs.Accepted.{MayStand, AreNumbered}
use Rattle.split_record.specs.Finishing.{Comes, Notes}
use Rattle.split_record.specs.declared.front.FrontEnd.{FrontEnd}
use Rattle.split_record.specs.declared.finishing.Finished.{Finished}

-- what a half knows of a subscriber at the split: all but where it is bound for
abbrev pub unbound : SubscriberState → SubscriberState
unbound subscriber = record subscriber { destination = 0 }

-- the subscriber as it was at the split, and the commands accepted since
abbrev pub start_of : FrontEnd → SubscriberState
start_of front = unbound front.started.value

abbrev pub commands_sent : FrontEnd → List CommandItem
commands_sent front = sent front.lane

-- the three come from one split
pub record AreOfOneSplit (front : FrontEnd) (half : ControlHalf) (counter : DataHalf) : Type 0 where
  pub session : (control.name_of half).session ≡ (start_of front).session
  pub number : (control.name_of half).number ≡ commands_met (start_of front)
  pub commands : (control.name_of half).commands ≡ sender_lane front.lane
  pub versions : (control.name_of half).versions ≡ (data_half.name_of counter).versions
  pub started : (data_half.name_of counter).started ≡ start_of front

-- The items that were handled, and those that are left: as many as were counted, each of the subscriber, under its
-- number; each may stand among the commands; and moments don't fall, from the last one before the split on.
pub record AreAccepted (front : FrontEnd) (items : List DataItem) : Type 0 where
  pub counted : front.packets ≡ (start_of front).packets + length items
  pub numbered : AreNumbered front.slot (start_of front).packets items
  pub standing : All (MayStand (commands_met (start_of front)) (commands_sent front)) items
  pub late : AreLate (unwrap_or (last_of (start_of front)) 0) (map (λ (i : DataItem). i.packet.moment) items)

-- what comes of a subscriber's halves, whatever its events before the split
pub record Finishes (start : SubscriberState) (commands : List CommandItem) (items : List DataItem) (destination : ℕ)
    (finished : Finished) : Type 0 where
  pub notes : Notes start commands items finished.commands.items finished.packets.items
  pub comes : (slot : ℕ) (before : List Event) (taken : ℕ) → StandsFor start slot before taken
      → FewEvents (length before + length commands + length items)
      → Comes start slot before taken commands items finished.record finished.commands.items finished.packets.items
      finished.effects.items finished.rows.items
  pub destination_is : finished.record.destination ≡ destination

-- the counts at the last move, which a call keeps
abbrev pub KeepsFloors : FrontEnd → FrontEnd → Type 0
KeepsFloors old new = (new.packets_before ≡ old.packets_before) × (new.commands_before ≡ old.commands_before)

-- what no call of a front end changes
pub record IsSameFront (old new : FrontEnd) : Type 0 where
  pub slot : new.slot ≡ old.slot
  pub started : new.started ≡ old.started
  pub destination : new.destination ≡ old.destination
  pub lane : sender_lane new.lane ≡ sender_lane old.lane

-- a command was sent: it has the next number, the count of moves, and the packets before the last move for a floor
pub record Sends (old : FrontEnd) (line : ℕ) (command : CommandKind) (new : FrontEnd) : Type 0 where
  pub sent_is : commands_sent new ≡ commands_sent old ++ record {
    number = old.commands;
    hop = old.hop;
    floor = old.packets_before;
    line = line;
    command = command;
  } ∷ []
  pub count : new.commands ≡ old.commands + 1
  pub fulls : full_answers new.lane ≡ full_answers old.lane

-- the item of a packet: it has the next number, and the commands before the last move for a floor
pub record IsItemOf (front : FrontEnd) (line : ℕ) (packet : Packet) (item : DataItem) : Type 0 where
  pub slot : item.slot ≡ front.slot
  pub number : item.number ≡ front.packets
  pub floor : item.floor ≡ front.commands_before
  pub line_is : item.line ≡ line
  pub packet_is : item.packet ≡ record packet { number = front.packets }

-- a subscriber was split, with lanes of a room for its commands and its versions
pub record IsSplit (start : SubscriberState) (room hop : ℕ) (front : FrontEnd) (half : ControlHalf)
    (counter : DataHalf) : Type 0 where
  pub started : front.started.value ≡ start
  pub slot : front.slot ≡ start.session.slot
  pub one : AreOfOneSplit front half counter
  pub commands : commands_sent front ≡ []
  pub counts : (front.commands ≡ commands_met start) × (front.packets ≡ start.packets)
  pub floors : (front.commands_before ≡ commands_met start) × (front.packets_before ≡ start.packets)
  pub hop_is : (front.hop ≡ hop) × (control.hop_of half ≡ hop)
  pub rooms : ((sender_lane front.lane).room ≡ room) × ((data_half.name_of counter).versions.room ≡ room)
  pub handled : data_half.handled_by counter ≡ []
