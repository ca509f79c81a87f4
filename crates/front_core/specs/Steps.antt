-- What a step does to what is had of each slot.
use Rattle.std.specs.Prelude.{◌≡◌, ◌≢◌, ℕ, ◌+◌, ◌≤◌, ◌<◌, ◌⊎◌, ◌^◌, Bool, true, false, Option, Some, None}
use Rattle.std.specs.Prelude.{[], ◌∷◌, ◌++◌, length, is_some, replicate}
use Rattle.lane_core.specs.Ends.{sender_lane}
use Rattle.control_steps.specs.declared.command.CommandKind.{CommandKind}
use Rattle.pc_base.specs.declared.packet.Packet.{Packet}
use Rattle.subscriber.specs.Standing.{SubscriberState, StandsFor, HasRoom, commands_met, last_of}
use Rattle.worker_core.specs.Desks.{lanes_of}
use Rattle.control_half.specs.Half as control_half
use Rattle.control_half.specs.Named as control_named
use Rattle.control_half.specs.declared.half.ControlHalf.{ControlHalf}
use Rattle.counter_half.specs.Named as data_named
use Rattle.counter_half.specs.declared.half.DataHalf.{DataHalf}
use Rattle.counter_half.specs.declared.items.DataItem.{DataItem}
use Rattle.split_record.specs.declared.front.FrontEnd.{FrontEnd}
use Rattle.split_record.specs.Accepted.{MayStand}
use Rattle.split_record.specs.Rejoined.{IsItemOf, commands_sent, start_of}
use Rattle.front_core.specs.Lines.{LaneWasFull}
use Rattle.front_core.specs.Placing.{ControlsPump, DatasPump, HalvesEnter, HalvesGo}
use Rattle.front_core.specs.declared.lot.Lot.{Lot}
use Rattle.front_core.specs.declared.lot.Lot.TheVariants.{Moved, Split}
use Rattle.front_core.specs.declared.halves.Halves.{Halves}
use Rattle.front_core.specs.Lots.{LotSettles, LotMoves, EndSends, EndAccepts, IsFullEnd, commands_of, end_of}
use Rattle.front_core.specs.Views.{both, View, view_at, moved_by, load_of, lane_rooms}

-- all is as it was, but that packets of the slot may no longer be parked
pub record ViewSettles (old new : View) : Type 0 where
  pub lot : LotSettles old.lot new.lot
  pub control : new.control ≡ old.control
  pub data_half : new.data_half ≡ old.data_half
  pub accepted : new.accepted ≡ old.accepted
  pub moved : new.moved ≡ old.moved
  pub parks : old.parks ≡ false → new.parks ≡ false

abbrev pub OthersSettle : ℕ → Halves → Halves → Type 0
OthersSettle slot old new = (other : ℕ) → other ≢ slot → ViewSettles (view_at old other) (view_at new other)

-- the lanes of both sides, and the rooms
pub record SidesKeep (old new : Halves) : Type 0 where
  pub control_lanes : lanes_of (both new).control_desks ≡ lanes_of (both old).control_desks
  pub data_lanes : lanes_of ((both new).desks) ≡ lanes_of ((both old).desks)
  pub queues : (both new).queue_room ≡ (both old).queue_room
  pub room : new.room ≡ old.room

-- sides were pumped, or tries were refused
pub record Settles (old new : Halves) : Type 0 where
  pub views : (slot : ℕ) → ViewSettles (view_at old slot) (view_at new slot)
  pub sides : SidesKeep old new
  pub lots : length new.lots.items ≡ length old.lots.items
  pub load : load_of new ≡ load_of old
  pub asked : (both new).control_asked ≡ (both old).control_asked

-- both sides were pumped, and nothing else was done
pub record Pumps (old new : Halves) : Type 0 where
  pub settles : Settles old new
  pub controls : ControlsPump control_half.name_of control_half.hop_of old.sides.controls new.sides.controls
  pub datas : DatasPump old.sides.datas new.sides.datas

-- a slot may be moved to a slice
pub record MayMove (slot slice : ℕ) (halves : Halves) : Type 0 where
  pub control_slice : slice < length ((both halves).control_desks)
  pub data_slice : slice < length ((both halves).desks)
  pub control_asked : (both halves).control_asked < 2 ^ 48
  pub data_asked : (both halves).asked < 2 ^ 48
  pub admitted : (end : FrontEnd) → (view_at halves slot).lot ≡ Some (Split end)
      → (is_some (view_at halves slot).control ≡ true) × (is_some (view_at halves slot).data_half ≡ true)
      × (end.hop < 2 ^ 61)

-- Where a subscriber is split, its halves are bound for a slice, and a control half that is at another leaves it once
-- it has met all commands so far; one that isn't has none.
abbrev pub GoesTo : ℕ → ℕ → Option Lot → Halves → Halves → Type 0
GoesTo slot slice None old new = both new ≡ both old
GoesTo slot slice (Some Moved) old new = both new ≡ both old
GoesTo slot slice (Some (Split end)) old new = HalvesGo slot slice (commands_of end) (both old) (both new)

-- a slot moved to a slice
pub record SlotMoves (slot slice : ℕ) (old new : Halves) : Type 0 where
  pub goes : GoesTo slot slice (view_at old slot).lot old new
  pub others : OthersSettle slot old new
  pub sides : SidesKeep old new
  pub lot : LotMoves (view_at old slot).lot (view_at new slot).lot
  pub control : (view_at new slot).control ≡ (view_at old slot).control
  pub data_half : (view_at new slot).data_half ≡ (view_at old slot).data_half
  pub accepted : (view_at new slot).accepted ≡ (view_at old slot).accepted
  pub moved : moved_by (view_at new slot).lot (view_at new slot).moved ≡ true
  pub parks : end_of (view_at old slot).lot ≡ None → (view_at new slot).parks ≡ (view_at old slot).parks
  pub load_accepted : (load_of new).accepted ≡ (load_of old).accepted
  pub load_admitted : (load_of new).admitted ≡ (load_of old).admitted
  pub asked : (load_of new).asked ≤ (load_of old).asked + 1
  pub control_asked : (both new).control_asked ≤ (both old).control_asked + 1

-- the front end and the names of its halves come from one split
pub record AreOneSplit (front : FrontEnd) (half : control_named.Named) (counter : data_named.Named) : Type 0 where
  pub session : half.session ≡ (start_of front).session
  pub number : half.number ≡ commands_met (start_of front)
  pub commands : half.commands ≡ sender_lane front.lane
  pub versions : half.versions ≡ counter.versions
  pub started : counter.started ≡ start_of front

-- a subscriber may be split, if it isn't
pub record MayAdmit (slot : ℕ) (subscriber : SubscriberState) (halves : Halves) : Type 0 where
  pub own : subscriber.session.slot ≡ slot
  pub room : (1 ≤ halves.room) × (halves.room ≤ 256)
  pub leaves_room : HasRoom subscriber
  pub control_slice : subscriber.destination < length ((both halves).control_desks)
  pub data_slice : subscriber.destination < length ((both halves).desks)
  pub control_asked : (both halves).control_asked < 2 ^ 48
  pub data_asked : (both halves).asked < 2 ^ 48
  pub fresh : end_of (view_at halves slot).lot ≡ None
      → ((view_at halves slot).control ≡ None) × ((view_at halves slot).data_half ≡ None)

-- a subscriber was split and its halves admitted, bound for its slice; in its place stands one without events
pub record SlotAdmits (slot : ℕ) (was is : SubscriberState) (old new : Halves) : Type 0 where
  pub others : OthersSettle slot old new
  pub sides : SidesKeep old new
  pub unsplit : end_of (view_at old slot).lot ≡ None
  pub end : FrontEnd
  pub lot : (view_at new slot).lot ≡ Some (Split end)
  pub half : control_named.Named
  pub counter : data_named.Named
  pub control : (view_at new slot).control ≡ Some half
  pub data_half : (view_at new slot).data_half ≡ Some counter
  pub own_control : ControlHalf
  pub own_data : DataHalf
  pub enters : HalvesEnter control_half.name_of control_half.hop_of slot was.destination (view_at new slot).moved
      own_control own_data (both old) (both new)
  pub one : AreOneSplit end half counter
  pub started : end.started.value ≡ was
  pub none_sent : commands_sent end ≡ []
  pub counts : (end.commands ≡ commands_met was) × (end.packets ≡ was.packets)
  pub floors : (end.commands_before ≡ commands_met was) × (end.packets_before ≡ was.packets)
  pub hop : end.hop ≡ 0
  pub lane_room : (sender_lane end.lane).room ≡ old.room
  pub own : end.slot ≡ slot
  pub accepted : (view_at new slot).accepted ≡ []
  pub moved : (view_at new slot).moved ≡ moved_by (view_at old slot).lot (view_at old slot).moved
  pub parks : (view_at new slot).parks ≡ true → (view_at new slot).moved ≡ true
  pub represents : StandsFor is slot [] 0
  pub destination : is.destination ≡ was.destination
  pub last : last_of is ≡ None
  pub load_accepted : (load_of new).accepted ≡ (load_of old).accepted
  pub load_admitted : (load_of new).admitted ≡ (load_of old).admitted + 1
  pub asked : (load_of new).asked ≡ (load_of old).asked + 1
  pub control_asked : (both new).control_asked ≡ (both old).control_asked + 1

-- a slot was split already, or is now
pub record WasSplit (slot : ℕ) (was is : SubscriberState) (old new : Halves) : Type 0 where
  pub end : FrontEnd
  pub lot : (view_at old slot).lot ≡ Some (Split end)
  pub same : is ≡ was
  pub settles : Settles old new

abbrev pub IsReady : ℕ → SubscriberState → SubscriberState → Halves → Halves → Type 0
IsReady slot was is old new = WasSplit slot was is old new ⊎ SlotAdmits slot was is old new

-- a split subscriber may be given a command or a packet
pub record MayGive (slot : ℕ) (halves : Halves) : Type 0 where
  pub end : FrontEnd
  pub lot : (view_at halves slot).lot ≡ Some (Split end)
  pub own : end.slot ≡ slot
  pub sent_few : length (commands_sent end) < 2 ^ 50
  pub packets_few : end.packets < end.started.value.packets + 2 ^ 50
  pub admitted : is_some (view_at halves slot).data_half ≡ true
  pub asked : (both halves).asked < 2 ^ 48

-- each slice's lane has this room
abbrev pub AreLanes : ℕ → Halves → Type 0
AreLanes lane halves = lane_rooms halves ≡ replicate (length (lane_rooms halves)) lane

-- a command was sent
pub record Commanded (slot line : ℕ) (c : CommandKind) (old new : Halves) : Type 0 where
  pub others : OthersSettle slot old new
  pub sides : SidesKeep old new
  pub lots : length new.lots.items ≡ length old.lots.items
  pub end : FrontEnd
  pub after : FrontEnd
  pub was : (view_at old slot).lot ≡ Some (Split end)
  pub is : (view_at new slot).lot ≡ Some (Split after)
  pub control : (view_at new slot).control ≡ (view_at old slot).control
  pub data_half : (view_at new slot).data_half ≡ (view_at old slot).data_half
  pub accepted : (view_at new slot).accepted ≡ (view_at old slot).accepted
  pub moved : (view_at new slot).moved ≡ (view_at old slot).moved
  pub parks : (view_at new slot).parks ≡ (view_at old slot).parks
  pub sends : EndSends line c end after
  pub load : load_of new ≡ load_of old
  pub asked : (both new).control_asked ≡ (both old).control_asked

-- a lane of commands was full
pub record CommandsFull (slot : ℕ) (halves : Halves) : Type 0 where
  pub end : FrontEnd
  pub lot : (view_at halves slot).lot ≡ Some (Split end)
  pub full : IsFullEnd end

-- a packet was accepted, and is parked exactly where its slot's packets were, and still are
pub record Received (slot line : ℕ) (packet : Packet) (parked : Bool) (old new : Halves) : Type 0 where
  pub others : OthersSettle slot old new
  pub sides : SidesKeep old new
  pub lots : length new.lots.items ≡ length old.lots.items
  pub end : FrontEnd
  pub after : FrontEnd
  pub item : DataItem
  pub was : (view_at old slot).lot ≡ Some (Split end)
  pub is : (view_at new slot).lot ≡ Some (Split after)
  pub control : (view_at new slot).control ≡ (view_at old slot).control
  pub data_half : (view_at new slot).data_half ≡ (view_at old slot).data_half
  pub moved : (view_at new slot).moved ≡ (view_at old slot).moved
  pub accepts : EndAccepts end after
  pub made : IsItemOf end line packet item
  pub stands : MayStand (commands_met end.started.value) (commands_sent end) item
  pub accepted : (view_at new slot).accepted ≡ (view_at old slot).accepted ++ item ∷ []
  pub parked_is : parked ≡ (view_at old slot).parks
  pub parks : (view_at new slot).parks ≡ parked
  pub load_accepted : (load_of new).accepted ≡ (load_of old).accepted + 1
  pub load_admitted : (load_of new).admitted ≡ (load_of old).admitted
  pub load_asked : (load_of new).asked ≡ (load_of old).asked + 1
  pub asked : (both new).control_asked ≡ (both old).control_asked

-- the lane of a packet's slice was full, or its slot's packets were parked and the queue was
abbrev pub WasFull : (slot lane : ℕ) → Halves → Halves → Type 0
WasFull slot lane old new = LaneWasFull lane (load_of new)
    ⊎ (((view_at old slot).parks ≡ true) × ((both old).queue_room ≤ length (view_at old slot).accepted))

-- so it was, where lanes have this room
abbrev pub PacketsFull : ℕ → Halves → Halves → Type 0
PacketsFull slot old new = (lane : ℕ) → AreLanes lane old → WasFull slot lane old new

-- but for its number it is the same packet
abbrev pub IsSamePacket : Packet → Packet → Type 0
IsSamePacket back packet = ◌≡◌ {A = Packet} (record back { number = 0 }) (record packet { number = 0 })
