-- A turn of a data worker.
use Rattle.std.specs.Prelude.{ℕ, ◌==◌, if◌then◌else◌, not}
use Rattle.std.specs.Prelude.{Option, Some, None, List, [], ◌∷◌, ◌++◌, length, get_or}
use Rattle.std.specs.List.{prefix_len}
use Rattle.pc_base.specs.declared.packet.Place.TheVariants.{At}
use Rattle.epoch_schedule.specs.Numbers.{times}
use Rattle.epoch_schedule.specs.Halves.{learn, may_handle, handle}
use Rattle.epoch_schedule.specs.World.{World, DataOrder, arrive, item, leave, DataNow}
use Rattle.epoch_schedule.specs.World.{home_room, has_room, slot_at, on_slot, data_at, on_data}
use Rattle.epoch_schedule.specs.World.{cursor_behind, cursor_next}
use Rattle.epoch_schedule.specs.ControlTurns.{without}

-- how many orders a turn takes at most
abbrev pub orders_taken : ℕ
orders_taken = 8

-- how a turn goes on: by the next order, by the half whose turn is next, or not at all
pub data Going : Type 0 where
  more : Going
  round : Going
  over : Going

pub record Doing : Type 0 where
  pub world : World
  pub going : Going

abbrev pub doing : World → Going → Doing
doing world going = record { world = world; going = going }

-- a half that waits goes home first, and where it can't the turn is over
abbrev pub go_home : ℕ → World → Option ℕ → Doing
go_home slice world None = doing world more
go_home slice world (Some slot) =
    if has_room home_room (data_at world slice).home
    then doing (on_data world slice (λ worker. record worker { home = worker.home ++ slot ∷ []; waiting = None })) more
    else doing world over

-- an order: a half arrives last; a half leaves, waits, and ends the turn; a packet is handled, or kept
abbrev pub place_of : ℕ → List ℕ → ℕ
place_of slot held = prefix_len (λ other. not (other == slot)) held

abbrev pub left : DataNow → ℕ → DataNow
left worker slot = record worker {
  held = without (place_of slot worker.held) worker.held;
  cursor = cursor_behind (place_of slot worker.held) worker.cursor
      (length (without (place_of slot worker.held) worker.held));
  waiting = Some slot;
}

abbrev pub handled : ℕ → World → ℕ → Doing
handled slice world slot =
    if may_handle (slot_at world slot) then doing (on_slot world slot (handle (At slice))) more
    else doing (on_data world slice (λ worker. record worker { kept = Some slot })) round

abbrev pub obeyed : ℕ → World → DataOrder → Doing
obeyed slice world (arrive slot) =
    doing (on_data world slice (λ worker. record worker { held = worker.held ++ slot ∷ [] })) more
obeyed slice world (leave slot) = doing (on_data world slice (λ worker. left worker slot)) over
obeyed slice world (item slot) = handled slice (on_slot world slot learn) slot

-- the kept packet comes before the lane's next order
abbrev pub next_order : ℕ → World → Option ℕ → List DataOrder → Doing
next_order slice world (Some slot) orders =
    obeyed slice (on_data world slice (λ worker. record worker { kept = None })) (item slot)
next_order slice world None [] = doing world round
next_order slice world None (order ∷ orders) =
    obeyed slice (on_data world slice (λ worker. record worker { orders = orders })) order

abbrev pub order_step_at : ℕ → World → Going → Doing
order_step_at slice world more = next_order slice world (data_at world slice).kept (data_at world slice).orders
order_step_at slice world round = doing world round
order_step_at slice world over = doing world over

abbrev pub order_step : ℕ → Doing → Doing
order_step slice now = order_step_at slice now.world now.going

unfoldable pub take_orders : ℕ → Doing → Doing
take_orders slice now = times orders_taken (order_step slice) now

-- the half whose turn is next learns
abbrev pub learn_next : ℕ → World → List ℕ → World
learn_next slice world [] = world
learn_next slice world (first ∷ others) =
    on_data (on_slot world (get_or (first ∷ others) (data_at world slice).cursor 0) learn) slice
    (λ worker. record worker { cursor = cursor_next worker.cursor (length worker.held) })

abbrev pub turn_end : ℕ → World → Going → World
turn_end slice world over = world
turn_end slice world more = learn_next slice world (data_at world slice).held
turn_end slice world round = learn_next slice world (data_at world slice).held

abbrev pub ended : ℕ → Doing → World
ended slice now = turn_end slice now.world now.going

abbrev pub data_turn : ℕ → World → World
data_turn slice world = ended slice (take_orders slice (go_home slice world (data_at world slice).waiting))
