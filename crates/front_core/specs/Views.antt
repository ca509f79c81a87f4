-- What the front and its two sides have of a slot.
use Rattle.std.specs.Prelude.{ℕ, Bool, true, false, Option, Some, None, List, map}
use Rattle.pc_base.specs.declared.packet.Packet.{Packet}
use Rattle.demux.specs.declared.packet.LentPacket.{LentPacket}
use Rattle.subscriber.specs.Standing.{commands_met}
use Rattle.control_half.specs.Half as control_half
use Rattle.control_half.specs.Named as control_named
use Rattle.control_half.specs.declared.half.ControlHalf.{ControlHalf}
use Rattle.control_half.specs.declared.items.CommandItem.{CommandItem}
use Rattle.counter_half.specs.Half as counter_half
use Rattle.counter_half.specs.Named as data_named
use Rattle.counter_half.specs.declared.half.DataHalf.{DataHalf}
use Rattle.counter_half.specs.declared.items.DataItem.{DataItem}
use Rattle.split_record.specs.declared.front.FrontEnd.{FrontEnd}
use Rattle.split_record.specs.Rejoined.{commands_sent}
use Rattle.front_core.specs.Kept.{Ends, Part, Load}
use Rattle.front_core.specs.Sides as sides
use Rattle.front_core.specs.declared.lot.Lot.{Lot}
use Rattle.front_core.specs.declared.lot.Lot.TheVariants.{Moved, Split}
use Rattle.front_core.specs.declared.halves.Halves.{Halves}
use Rattle.front_core.specs.Lots.{lot_of}

-- both sides
abbrev pub both : Halves → sides.Both ControlHalf DataHalf DataItem
both halves = sides.both_of halves.sides.controls halves.sides.datas

-- the lot, the names of the two halves where they are admitted, the accepted items, whether the data side knows that
-- the slot moved, and whether its packets are parked
pub record View : Type 0 where
  pub lot : Option Lot
  pub control : Option control_named.Named
  pub data_half : Option data_named.Named
  pub accepted : List DataItem
  pub moved : Bool
  pub parks : Bool

abbrev pub side_at : Halves → ℕ → sides.View control_named.Named data_named.Named DataItem
side_at halves slot = sides.view_of control_half.name_of counter_half.name_of (both halves) slot

abbrev pub view_at : Halves → ℕ → View
view_at halves slot = record {
  lot = lot_of halves.lots.items slot;
  control = (side_at halves slot).control;
  data_half = (side_at halves slot).data_half;
  accepted = (side_at halves slot).accepted;
  moved = (side_at halves slot).moved;
  parks = (side_at halves slot).parks;
}

-- whether the subscriber moved
abbrev pub moved_by : Option Lot → Bool → Bool
moved_by None moved = false
moved_by (Some Moved) moved = true
moved_by (Some (Split end)) moved = moved

-- a packet without its number
abbrev pub lent_of : Packet → LentPacket
lent_of packet = record { moment = packet.moment; way = packet.way; ip = packet.octets }

-- what a front end and the accepted items tell
abbrev pub ends_of : FrontEnd → List DataItem → Ends
ends_of end accepted = record {
  first_command = commands_met end.started.value;
  first_packet = end.started.value.packets;
  commands = map (λ (c : CommandItem). c.command) (commands_sent end);
  command_floors = map (λ (c : CommandItem). c.floor) (commands_sent end);
  packets = map (λ (i : DataItem). lent_of i.packet) accepted;
  packet_floors = map (λ (i : DataItem). i.floor) accepted;
  commands_before = end.commands_before;
  packets_before = end.packets_before;
}

abbrev pub own_of : Option Lot → List DataItem → Option Ends
own_of None accepted = None
own_of (Some Moved) accepted = None
own_of (Some (Split end)) accepted = Some (ends_of end accepted)

abbrev pub part_of : View → Part
part_of view = record {
  own = own_of view.lot view.accepted;
  moved = moved_by view.lot view.moved;
  parks = view.parks;
}

abbrev pub parts_of : Halves → ℕ → Part
parts_of halves slot = part_of (view_at halves slot)

abbrev pub load_of : Halves → Load
load_of halves = sides.load_of counter_half.name_of (both halves)

-- the room of each slice's lane
abbrev pub lane_rooms : Halves → List ℕ
lane_rooms halves = sides.lane_rooms (both halves)
