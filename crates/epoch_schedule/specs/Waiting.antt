-- Which slots wait for a pass of the pump.
use Rattle.std.specs.Prelude.{◌≡◌, ℕ, ◌≤◌, ◌<◌, ◌==◌, ◌||◌, Bool, true, false}
use Rattle.std.specs.Prelude.{if◌then◌else◌, nat_lt, Option, Some, None}
use Rattle.std.specs.Prelude.{List, [], ◌∷◌, length, get_or, unwrap_or}
use Rattle.epoch_schedule.specs.Numbers.{for_each}
use Rattle.epoch_schedule.specs.Slots.{Standing, absent, front, placed, recalled, leaving, SlotNow}
use Rattle.epoch_schedule.specs.World.{World, Rooms, order_room, slot_at, control_at, data_at}
use Rattle.epoch_schedule.specs.Front.{control_offer, data_offer, drain}
use Rattle.epoch_schedule.specs.declared.waiting.Pass.{Pass}
use Rattle.epoch_schedule.specs.declared.waiting.Pass.TheVariants as pass
use Rattle.epoch_schedule.specs.declared.waiting.Want.{Want}
use Rattle.epoch_schedule.specs.declared.waiting.Want.TheVariants as want
use Rattle.epoch_schedule.specs.declared.passing.NextVisit.{NextVisit}
use Rattle.epoch_schedule.specs.declared.waiting.PassWaits.{PassWaits}
use Rattle.epoch_schedule.specs.declared.waiting.WaitingSlots.{WaitingSlots}

-- whether a slot is in a list
abbrev pub is_in : List ℕ → ℕ → Bool
is_in [] s = false
is_in (own ∷ others) s = (own == s) || is_in others s

-- what a pass does at a slot, and at all of them in their order
abbrev pub step_by : Pass → Rooms → (ℕ → ℕ) → World → ℕ → World
step_by pass.Controls rooms bounds world s = control_offer bounds world s
step_by pass.Datas rooms bounds world s = data_offer rooms bounds world s
step_by pass.Queues rooms bounds world s = drain rooms world s

abbrev pub passed_by : Pass → Rooms → (ℕ → ℕ) → World → World
passed_by pass rooms bounds world = for_each (step_by pass rooms bounds) world 0 (length world.slots)

-- what a pass goes by at a slot
pub record Calls : Type 0 where
  pub control : Standing
  pub data_half : Standing
  pub queued : ℕ
  pub hop : ℕ
  pub bound : Option ℕ
  pub arrived : ℕ

abbrev pub calls_of : SlotNow → Calls
calls_of slot = record {
  control = slot.control;
  data_half = slot.data_half;
  queued = slot.queued;
  hop = slot.hop;
  bound = slot.bound;
  arrived = slot.arrived;
}

-- What a half of a slot wants that is bound for this slice. A control half at the front is told of its moves with each
-- offer, so that it is visited where it doesn't know of them.
abbrev pub half_wants : (slice : ℕ) → Standing → Want
half_wants slice absent = want.Nothing
half_wants slice front = want.Room slice
half_wants slice (placed own) = want.Nothing
half_wants slice (recalled own until) = want.Room own
half_wants slice leaving = want.Nothing

abbrev pub control_wants : (told : Bool) → (slice : ℕ) → Standing → Want
control_wants told slice absent = want.Nothing
control_wants told slice front = if told then want.Room slice else want.Visit
control_wants told slice (placed own) = want.Nothing
control_wants told slice (recalled own until) = want.Room own
control_wants told slice leaving = want.Nothing

-- and so many packets whose half stands there
abbrev pub queue_wants : (queued : ℕ) → Standing → Want
queue_wants queued absent = want.Nothing
queue_wants queued front = want.Nothing
queue_wants queued (placed slice) = if nat_lt 0 queued then want.Room slice else want.Nothing
queue_wants queued (recalled slice until) = want.Nothing
queue_wants queued leaving = want.Nothing

abbrev pub wanted : Pass → (bounds : ℕ → ℕ) → (s : ℕ) → Calls → Want
wanted pass.Controls bounds s calls =
    control_wants (calls.arrived == calls.hop) (unwrap_or calls.bound (bounds s)) calls.control
wanted pass.Datas bounds s calls = half_wants (unwrap_or calls.bound (bounds s)) calls.data_half
wanted pass.Queues bounds s calls = queue_wants calls.queued calls.data_half

-- whether a lane is full
abbrev pub IsFull : Pass → Rooms → World → (lane : ℕ) → Type 0
IsFull pass.Controls rooms world lane = order_room ≤ length (control_at world lane).orders
IsFull pass.Datas rooms world lane = rooms.lane ≤ length (data_at world lane).orders
IsFull pass.Queues rooms world lane = rooms.lane ≤ length (data_at world lane).orders

-- a slot that wants this is passed
abbrev pub IsPassed : Pass → Rooms → World → Want → Type 0
IsPassed of rooms world want.Nothing = Unit {0}
IsPassed of rooms world want.Visit = ⊥
IsPassed of rooms world (want.Room lane) = IsFull of rooms world lane

-- a slot stands where it is found by what it wants
abbrev pub Stands : Want → PassWaits → (s : ℕ) → Type 0
Stands want.Nothing waits s = Unit {0}
Stands want.Visit waits s = is_in waits.visits s ≡ true
Stands (want.Room lane) waits s = is_in (get_or waits.lanes.items lane []) s ≡ true

-- it does now, and the others as before; or the others alone
pub record IsPut (s : ℕ) (now : Want) (old new : PassWaits) : Type 0 where
  pub own : Stands now new s
  pub more : (kind : Want) → (t : ℕ) → Stands kind old t → Stands kind new t

abbrev pub IsLeftOut : (s : ℕ) → (old new : PassWaits) → Type 0
IsLeftOut s old new = (kind : Want) → (t : ℕ) → (s == t) ≡ false → Stands kind old t → Stands kind new t

-- of each pass
abbrev pub waits_of : Pass → WaitingSlots → PassWaits
waits_of pass.Controls waiting = waiting.controls
waits_of pass.Datas waiting = waiting.datas
waits_of pass.Queues waiting = waiting.queues

pub record IsLeftOutOf (s : ℕ) (old new : WaitingSlots) : Type 0 where
  pub others : (of : Pass) → IsLeftOut s (waits_of of old) (waits_of of new)
  pub busy : new.busy.items ≡ old.busy.items

-- each slot stands where it is found by what it wants of a pass, but for some
abbrev pub AreWaiting : Pass → (ℕ → ℕ) → (but : List ℕ) → PassWaits → World → Type 0
AreWaiting of bounds but waits world =
    (s : ℕ) → is_in but s ≡ false → Stands (wanted of bounds s (calls_of (slot_at world s))) waits s

-- the slot of the next visit
abbrev pub slot_of : Option NextVisit → Option ℕ
slot_of None = None
slot_of (Some next) = Some next.slot

-- from a slot on to before the next one, or to the end, those that stand somewhere are passed
abbrev pub IsBelow : ℕ → Option ℕ → Type 0
IsBelow t None = Unit {0}
IsBelow t (Some s) = t < s

abbrev pub NoneBefore : Pass → Rooms → World → PassWaits → (from : ℕ) → (next : Option ℕ) → Type 0
NoneBefore of rooms world waits from next =
    (t : ℕ) → from ≤ t → IsBelow t next → (kind : Want) → Stands kind waits t → IsPassed of rooms world kind
