-- The world of an epoch, as the schedule sees it: slots, and the workers of each slice.
use Rattle.std.specs.Prelude.{ℕ, ◌+◌, ◌-◌, Bool, if◌then◌else◌, nat_lt, Option, None, List, [], length}
use Rattle.epoch_schedule.specs.Numbers.{value_at, put_at}
use Rattle.epoch_schedule.specs.Slots.{SlotNow, fresh_slot}

-- What a control worker is told: the half of a slot comes, or goes once so many commands are done. What a data worker
-- is told: a half arrives, its next packet, and that it leaves.
pub data ControlOrder : Type 0 where
  come : (slot : ℕ) → ControlOrder
  go : (slot until : ℕ) → ControlOrder

pub data DataOrder : Type 0 where
  arrive : (slot : ℕ) → DataOrder
  item : (slot : ℕ) → DataOrder
  leave : (slot : ℕ) → DataOrder

-- a control half on its slice, and after how many commands it goes home, if it is to
pub record HeldControl : Type 0 where
  pub slot : ℕ
  pub until : Option ℕ

-- a worker: its orders, the halves that it holds, those that it sent home, and the half whose turn is next
pub record ControlNow : Type 0 where
  pub orders : List ControlOrder
  pub held : List HeldControl
  pub home : List ℕ
  pub cursor : ℕ

-- a data worker also has a half that waits to go home, and keeps the packet of a slot that may not be handled yet
pub record DataNow : Type 0 where
  pub orders : List DataOrder
  pub held : List ℕ
  pub home : List ℕ
  pub cursor : ℕ
  pub waiting : Option ℕ
  pub kept : Option ℕ

abbrev pub fresh_control : ControlNow
fresh_control = record { orders = []; held = []; home = []; cursor = 0 }

abbrev pub fresh_data : DataNow
fresh_data = record { orders = []; held = []; home = []; cursor = 0; waiting = None; kept = None }

-- by slot, and by slice
pub record World : Type 0 where
  pub slots : List SlotNow
  pub controls : List ControlNow
  pub datas : List DataNow

-- before the first line
abbrev pub start : World
start = record { slots = []; controls = []; datas = [] }

-- the room of a subscriber's lanes and of its queue, and of a slice's lane; orders of control workers and homes have
-- one room everywhere
pub record Rooms : Type 0 where
  pub room : ℕ
  pub lane : ℕ

abbrev pub order_room : ℕ
order_room = 64

abbrev pub home_room : ℕ
home_room = 64

abbrev pub has_room : {X : Type 0} → ℕ → List X → Bool
has_room room xs = nat_lt (length xs) room

abbrev pub slot_at : World → ℕ → SlotNow
slot_at world s = value_at fresh_slot world.slots s

abbrev pub on_slot : World → ℕ → (SlotNow → SlotNow) → World
on_slot world s change = record world { slots = put_at fresh_slot world.slots s (change (slot_at world s)) }

abbrev pub control_at : World → ℕ → ControlNow
control_at world slice = value_at fresh_control world.controls slice

abbrev pub on_control : World → ℕ → (ControlNow → ControlNow) → World
on_control world slice change =
    record world { controls = put_at fresh_control world.controls slice (change (control_at world slice)) }

abbrev pub data_at : World → ℕ → DataNow
data_at world slice = value_at fresh_data world.datas slice

abbrev pub on_data : World → ℕ → (DataNow → DataNow) → World
on_data world slice change =
    record world { datas = put_at fresh_data world.datas slice (change (data_at world slice)) }

-- the cursor behind the half of this place leaving a list that has so many then
abbrev pub cursor_within : (cursor count : ℕ) → ℕ
cursor_within cursor count = if nat_lt cursor count then cursor else 0

abbrev pub cursor_behind : (place cursor count : ℕ) → ℕ
cursor_behind place cursor count = cursor_within (if nat_lt place cursor then cursor - 1 else cursor) count

-- the cursor behind a half's turn
abbrev pub cursor_next : (place count : ℕ) → ℕ
cursor_next place count = cursor_within (place + 1) count
