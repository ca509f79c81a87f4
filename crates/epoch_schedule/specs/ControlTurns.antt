-- A turn of a control worker.
use Rattle.std.specs.Prelude.{ℕ, zero, suc, ◌==◌, Bool, false, if◌then◌else◌, not, nat_lt, nat_le}
use Rattle.std.specs.Prelude.{Option, Some, None, List, [], ◌∷◌, ◌++◌, length, map, get_or}
use Rattle.std.specs.List.{prefix_len}
use Rattle.epoch_schedule.specs.Slots.{SlotNow}
use Rattle.epoch_schedule.specs.Halves.{control_work}
use Rattle.epoch_schedule.specs.World.{World, Rooms, ControlOrder, come, go, ControlNow, HeldControl}
use Rattle.epoch_schedule.specs.World.{home_room, has_room, slot_at, on_slot, control_at, on_control}
use Rattle.epoch_schedule.specs.World.{cursor_behind, cursor_next}

-- an order is taken: a half comes, or is marked
abbrev pub marked : (slot until : ℕ) → HeldControl → HeldControl
marked slot until held = if held.slot == slot then record held { until = Some until } else held

abbrev pub behind_order : ControlNow → ControlOrder → ControlNow
behind_order worker (come slot) = record worker { held = worker.held ++ record { slot = slot; until = None } ∷ [] }
behind_order worker (go slot until) = record worker { held = map (marked slot until) worker.held }

-- the place of the first half that goes home: it is marked, and has done its commands
abbrev pub is_done : SlotNow → Option ℕ → Bool
is_done slot None = false
is_done slot (Some until) = nat_le until slot.applied

abbrev pub stays : World → HeldControl → Bool
stays world held = not (is_done (slot_at world held.slot) held.until)

abbrev pub place_done : World → List HeldControl → ℕ
place_done world held = prefix_len (stays world) held

-- all but the one at a place
abbrev pub without : {X : Type 0} → ℕ → List X → List X
without n [] = []
without zero (x ∷ xs) = xs
without (suc n) (x ∷ xs) = x ∷ without n xs

abbrev pub held_at : List HeldControl → ℕ → HeldControl
held_at held place = get_or held place (record { slot = 0; until = None })

abbrev pub sent_home : ControlNow → ℕ → ControlNow
sent_home worker place = record worker {
  held = without place worker.held;
  home = worker.home ++ (held_at worker.held place).slot ∷ [];
  cursor = cursor_behind place worker.cursor (length (without place worker.held));
}

-- a half is turned, and whether that works
abbrev pub slot_held : World → (slice place : ℕ) → ℕ
slot_held world slice place = (held_at (control_at world slice).held place).slot

abbrev pub half_turned : Rooms → World → ℕ → World
half_turned rooms world s = on_slot world s (λ slot. (control_work rooms.room slot).slot)

abbrev pub has_worked : Rooms → World → ℕ → Bool
has_worked rooms world s = (control_work rooms.room (slot_at world s)).worked

abbrev pub next_place : World → (slice place : ℕ) → ℕ
next_place world slice place = cursor_next place (length (control_at world slice).held)

abbrev pub cursor_at : World → (slice place : ℕ) → World
cursor_at world slice place = on_control world slice (λ worker. record worker { cursor = place })

-- Halves are turned round the list until one works. So many are left to turn, the next one at this place.
abbrev pub work_round : Rooms → (slice place left : ℕ) → World → World
work_round rooms slice place zero world = world
work_round rooms slice place (suc left) world =
    if has_worked rooms world (slot_held world slice place)
    then cursor_at (half_turned rooms world (slot_held world slice place)) slice (next_place world slice place)
    else work_round rooms slice (next_place world slice place) left
    (half_turned rooms world (slot_held world slice place))

abbrev pub work_all : Rooms → ℕ → World → World
work_all rooms slice world =
    work_round rooms slice (control_at world slice).cursor (length (control_at world slice).held) world

-- where no order waits: a half goes home, if one is done and there is room; else the halves are turned
abbrev pub go_or_work : Rooms → ℕ → World → World
go_or_work rooms slice world =
    if nat_lt (place_done world (control_at world slice).held) (length (control_at world slice).held)
    then if has_room home_room (control_at world slice).home
    then on_control world slice (λ worker. sent_home worker (place_done world worker.held))
    else work_all rooms slice world
    else work_all rooms slice world

abbrev pub control_turn_by : Rooms → ℕ → World → List ControlOrder → World
control_turn_by rooms slice world [] = go_or_work rooms slice world
control_turn_by rooms slice world (order ∷ orders) =
    on_control world slice (λ worker. behind_order (record worker { orders = orders }) order)

abbrev pub control_turn : Rooms → ℕ → World → World
control_turn rooms slice world = control_turn_by rooms slice world (control_at world slice).orders
