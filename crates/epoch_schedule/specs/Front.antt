-- What the front does: it takes halves home, offers orders, and accepts or refuses.
use Rattle.std.specs.Prelude.{ℕ, ◌+◌, ◌-◌, Bool, true, false, if◌then◌else◌, not, ◌&&◌, ◌||◌, nat_lt, min}
use Rattle.std.specs.Prelude.{Some, [], ◌∷◌, ◌++◌, length, fold, replicate}
use Rattle.epoch_schedule.specs.Numbers.{for_each}
use Rattle.epoch_schedule.specs.Slots.{Standing, absent, front, placed, recalled, leaving, is_placed, is_absent}
use Rattle.epoch_schedule.specs.Slots.{SlotNow, destination}
use Rattle.epoch_schedule.specs.World.{World, Rooms, ControlOrder, come, go, DataOrder, arrive, item, leave}
use Rattle.epoch_schedule.specs.World.{order_room, has_room, slot_at, on_slot, control_at, on_control, data_at, on_data}

-- halves that were sent home from a slice are at the front again
abbrev pub back : Standing → Standing
back absent = absent
back front = front
back (placed slice) = placed slice
back (recalled slice until) = recalled slice until
back leaving = front

abbrev pub control_back : World → ℕ → World
control_back world s = on_slot world s (λ slot. record slot { control = back slot.control })

abbrev pub control_home : World → ℕ → World
control_home world slice =
    on_control (fold control_back world (control_at world slice).home) slice (λ worker. record worker { home = [] })

abbrev pub data_back : World → ℕ → World
data_back world s = on_slot world s (λ slot. record slot { data_half = back slot.data_half })

abbrev pub data_home : World → ℕ → World
data_home world slice =
    on_data (fold data_back world (data_at world slice).home) slice (λ worker. record worker { home = [] })

-- An order is offered to a control worker, which may be full. With each offer to come the half is told of its moves.
abbrev pub control_ordered : World → (slice s : ℕ) → ControlOrder → Standing → World
control_ordered world slice s order standing =
    if has_room order_room (control_at world slice).orders
    then on_slot (on_control world slice (λ worker. record worker { orders = worker.orders ++ order ∷ [] })) s
    (λ slot. record slot { control = standing })
    else world

abbrev pub control_offer_at : (ℕ → ℕ) → World → ℕ → Standing → World
control_offer_at bounds world s absent = world
control_offer_at bounds world s front =
    control_ordered (on_slot world s (λ slot. record slot { arrived = slot.hop }))
    (destination bounds s (slot_at world s)) s (come s) (placed (destination bounds s (slot_at world s)))
control_offer_at bounds world s (placed slice) = world
control_offer_at bounds world s (recalled slice until) = control_ordered world slice s (go s until) leaving
control_offer_at bounds world s leaving = world

abbrev pub control_offer : (ℕ → ℕ) → World → ℕ → World
control_offer bounds world s = control_offer_at bounds world s (slot_at world s).control

-- and to a slice's lane
abbrev pub data_ordered : Rooms → World → (slice s : ℕ) → DataOrder → Standing → World
data_ordered rooms world slice s order standing =
    if has_room rooms.lane (data_at world slice).orders
    then on_slot (on_data world slice (λ worker. record worker { orders = worker.orders ++ order ∷ [] })) s
    (λ slot. record slot { data_half = standing })
    else world

abbrev pub data_offer_at : Rooms → (ℕ → ℕ) → World → ℕ → Standing → World
data_offer_at rooms bounds world s absent = world
data_offer_at rooms bounds world s front =
    data_ordered rooms world (destination bounds s (slot_at world s)) s (arrive s)
    (placed (destination bounds s (slot_at world s)))
data_offer_at rooms bounds world s (placed slice) = world
data_offer_at rooms bounds world s (recalled slice until) = data_ordered rooms world slice s (leave s) leaving
data_offer_at rooms bounds world s leaving = world

abbrev pub data_offer : Rooms → (ℕ → ℕ) → World → ℕ → World
data_offer rooms bounds world s = data_offer_at rooms bounds world s (slot_at world s).data_half

-- packets that wait go into the lane of the slice that their half is on, as many as there is room for
abbrev pub drained : Rooms → World → (slice s : ℕ) → ℕ → World
drained rooms world slice s n =
    on_slot (on_data world slice (λ worker. record worker { orders = worker.orders ++ replicate n (item s) })) s
    (λ slot. record slot { queued = slot.queued - n })

abbrev pub drain_at : Rooms → World → ℕ → Standing → World
drain_at rooms world s absent = world
drain_at rooms world s front = world
drain_at rooms world s (placed slice) =
    drained rooms world slice s (min (slot_at world s).queued (rooms.lane - length (data_at world slice).orders))
drain_at rooms world s (recalled slice until) = world
drain_at rooms world s leaving = world

abbrev pub drain : Rooms → World → ℕ → World
drain rooms world s = drain_at rooms world s (slot_at world s).data_half

-- before each line: the control side, then the data side
abbrev pub controls_home : World → World
controls_home world = for_each control_home world 0 (length world.controls)

abbrev pub controls_offered : (ℕ → ℕ) → World → World
controls_offered bounds world = for_each (control_offer bounds) world 0 (length world.slots)

abbrev pub datas_home : World → World
datas_home world = for_each data_home world 0 (length world.datas)

abbrev pub datas_offered : Rooms → (ℕ → ℕ) → World → World
datas_offered rooms bounds world = for_each (data_offer rooms bounds) world 0 (length world.slots)

abbrev pub all_drained : Rooms → World → World
all_drained rooms world = for_each (drain rooms) world 0 (length world.slots)

abbrev pub pumped : Rooms → (ℕ → ℕ) → World → World
pumped rooms bounds world =
    all_drained rooms (datas_offered rooms bounds (datas_home (controls_offered bounds (controls_home world))))

-- a slot's first command or packet makes its halves: the control half is offered first
abbrev pub control_made : World → ℕ → World
control_made world s = on_slot world s (λ slot. record slot { control = front })

abbrev pub data_made : World → ℕ → World
data_made world s = on_slot world s (λ slot. record slot { data_half = front })

abbrev pub made : Rooms → (ℕ → ℕ) → World → ℕ → World
made rooms bounds world s = data_offer rooms bounds (data_made (control_offer bounds (control_made world s) s) s) s

abbrev pub admitted : Rooms → (ℕ → ℕ) → World → ℕ → World
admitted rooms bounds world s =
    if is_absent (slot_at world s).control then made rooms bounds world s else world

-- what a line asks of the schedule, and what becomes of it: it is taken or refused, and a packet may be parked
pub data Asks : Type 0 where
  nothing : Asks
  command : (slot : ℕ) → Asks
  packet : (slot : ℕ) → Asks
  move : (slot slice : ℕ) → Asks

pub record Outcome : Type 0 where
  pub taken : Bool
  pub parked : Bool

pub record Done : Type 0 where
  pub world : World
  pub outcome : Outcome

abbrev pub accepted : World → Done
accepted world = record { world = world; outcome = record { taken = true; parked = false } }

abbrev pub parked_at : World → Done
parked_at world = record { world = world; outcome = record { taken = true; parked = true } }

abbrev pub refused : World → Done
refused world = record { world = world; outcome = record { taken = false; parked = false } }

-- a command is taken where the slot's lane has room
abbrev pub with_command : SlotNow → SlotNow
with_command slot = record slot {
  commands = slot.commands ++ record { hop = slot.hop; floor = slot.packets_before } ∷ [];
}

abbrev pub offer_command : Rooms → World → ℕ → Done
offer_command rooms world s =
    if nat_lt (length (slot_at world s).commands - (slot_at world s).taken) rooms.room
    then accepted (on_slot world s with_command) else refused world

-- a packet waits at the front behind a move, until its half is on its slice and no other waits; else it goes into the
-- lane of its slice
abbrev pub parks : SlotNow → Bool
parks slot = nat_lt 0 slot.hop && (not (is_placed slot.data_half) || nat_lt 0 slot.queued)

abbrev pub with_packet : SlotNow → SlotNow
with_packet slot = record slot { packets = slot.packets ++ slot.commands_before ∷ [] }

abbrev pub park_packet : Rooms → World → ℕ → Done
park_packet rooms world s =
    if nat_lt (slot_at world s).queued rooms.room
    then parked_at (on_slot world s (λ slot. record (with_packet slot) { queued = slot.queued + 1 }))
    else refused world

abbrev pub send_packet_at : Rooms → World → ℕ → Standing → Done
send_packet_at rooms world s absent = refused world
send_packet_at rooms world s front = refused world
send_packet_at rooms world s (placed slice) =
    if has_room rooms.lane (data_at world slice).orders
    then accepted
    (on_slot (on_data world slice (λ worker. record worker { orders = worker.orders ++ item s ∷ [] })) s with_packet)
    else refused world
send_packet_at rooms world s (recalled slice until) = refused world
send_packet_at rooms world s leaving = refused world

abbrev pub send_packet : Rooms → World → ℕ → Done
send_packet rooms world s = send_packet_at rooms world s (slot_at world s).data_half

abbrev pub is_front : Standing → Bool
is_front absent = false
is_front front = true
is_front (placed slice) = false
is_front (recalled slice until) = false
is_front leaving = false

-- a half that is still at the front is offered once more
abbrev pub arrived_first : Rooms → (ℕ → ℕ) → World → ℕ → World
arrived_first rooms bounds world s =
    if is_front (slot_at world s).data_half then data_offer rooms bounds world s else world

abbrev pub offer_packet : Rooms → (ℕ → ℕ) → World → ℕ → Done
offer_packet rooms bounds world s =
    if parks (slot_at world s) then park_packet rooms world s
    else send_packet rooms (arrived_first rooms bounds world s) s

-- a move: halves that are on a slice are called back, each with an offer
abbrev pub control_called : Standing → ℕ → Standing
control_called absent until = absent
control_called front until = front
control_called (placed slice) until = recalled slice until
control_called (recalled slice earlier) until = recalled slice earlier
control_called leaving until = leaving

abbrev pub moved : ℕ → SlotNow → SlotNow
moved slice slot = record slot {
  hop = slot.hop + 1;
  bound = Some slice;
  commands_before = length slot.commands;
  packets_before = length slot.packets;
}

abbrev pub control_recalled : (ℕ → ℕ) → World → ℕ → World
control_recalled bounds world s =
    if is_placed (slot_at world s).control
    then control_offer bounds
    (on_slot world s (λ slot. record slot { control = control_called slot.control (length slot.commands) })) s
    else world

abbrev pub data_recalled : Rooms → (ℕ → ℕ) → World → ℕ → World
data_recalled rooms bounds world s =
    if is_placed (slot_at world s).data_half
    then data_offer rooms bounds
    (on_slot world s (λ slot. record slot { data_half = control_called slot.data_half 0 })) s
    else world

abbrev pub move_slot : Rooms → (ℕ → ℕ) → World → ℕ → ℕ → World
move_slot rooms bounds world s slice =
    data_recalled rooms bounds (control_recalled bounds (on_slot world s (moved slice)) s) s

-- a line, behind the pump
abbrev pub line_done : Rooms → (ℕ → ℕ) → World → Asks → Done
line_done rooms bounds world nothing = accepted world
line_done rooms bounds world (command s) = offer_command rooms (admitted rooms bounds world s) s
line_done rooms bounds world (packet s) = offer_packet rooms bounds (admitted rooms bounds world s) s
line_done rooms bounds world (move s slice) = accepted (move_slot rooms bounds world s slice)
