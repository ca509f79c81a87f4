-- Whatever a worker's turn does, what each of its steps keeps stays.
use Rattle.std.proofs.Common.{◌≡◌, ℕ, zero, suc, ◌≤◌, ◌%◌, ◌/◌, ◌==◌, nat_lt, Option, Some, None, List, [], ◌∷◌, ◌++◌, map, length, get_or, cond, refl, ap, arith}
use Rattle.std.proofs.lemmas.List.Sums.{sum_by-append}
use Rattle.epoch_schedule.specs.Halves.{learn, may_handle, handle}
use Rattle.epoch_schedule.specs.World.{World, Rooms, ControlOrder, DataOrder, arrive, item, leave, home_room, has_room, slot_at, on_slot, control_at, on_control, data_at, on_data, cursor_next}
use Rattle.epoch_schedule.specs.ControlTurns.{place_done, sent_home, slot_held, half_turned, has_worked, next_place, cursor_at, work_round, work_all, go_or_work, control_turn_by, control_turn, behind_order}
use Rattle.epoch_schedule.specs.DataTurns.{orders_taken, Going, more, round, over, Doing, doing, go_home, left, handled, obeyed, next_order, order_step_at, order_step, take_orders, learn_next, turn_end, data_turn}
use Rattle.epoch_schedule.specs.Schedule.{turned}
use Rattle.pc_base.specs.declared.packet.Place.TheVariants.{At}
use Rattle.epoch_schedule.proofs.Keeping.{cond_keeps, cond_gives, times_keeps}
use Rattle.epoch_schedule.proofs.Steps.{order_slot, orders_of, TurnSteps}

-- a lane without its first order
pub fewer_orders : (s : ℕ) (order : DataOrder) (orders all : List DataOrder) → all ≡ order ∷ orders
    → orders_of s orders ≤ orders_of s all
fewer_orders s order orders all is =
    let parts = sum_by-append (λ (own : ℕ). cond (own == s) 1 0) (order_slot order ∷ []) (map order_slot orders) in
    let same = ap (orders_of s) is in
    omega (arith, parts, same)

module _ (W : World → Type 0) (steps : TurnSteps W) where
  -- turns of control workers
  half_turned_keeps : (rooms : Rooms) (world : World) (s : ℕ) → W world → W (half_turned rooms world s)
  half_turned_keeps rooms world s all = steps.works rooms.room world s all

  cursor_at_keeps : (world : World) (slice place : ℕ) → W world → W (cursor_at world slice place)
  cursor_at_keeps world slice place all = steps.controls world slice (λ worker. record worker { cursor = place }) all

  work_round_keeps : (rooms : Rooms) (slice place left : ℕ) (world : World) → W world
      → W (work_round rooms slice place left world)
  work_round_keeps rooms slice place zero world all = all
  work_round_keeps rooms slice place (suc left) world all =
      let turned = half_turned_keeps rooms world (slot_held world slice place) all in
      cond_keeps W (has_worked rooms world (slot_held world slice place))
      (cursor_at (half_turned rooms world (slot_held world slice place)) slice (next_place world slice place))
      (work_round rooms slice (next_place world slice place) left
      (half_turned rooms world (slot_held world slice place)))
      (cursor_at_keeps (half_turned rooms world (slot_held world slice place)) slice (next_place world slice place)
      turned)
      (work_round_keeps rooms slice (next_place world slice place) left
      (half_turned rooms world (slot_held world slice place)) turned)

  work_all_keeps : (rooms : Rooms) (slice : ℕ) (world : World) → W world → W (work_all rooms slice world)
  work_all_keeps rooms slice world all =
      work_round_keeps rooms slice (control_at world slice).cursor (length (control_at world slice).held) world all

  go_or_work_keeps : (rooms : Rooms) (slice : ℕ) (world : World) → W world → W (go_or_work rooms slice world)
  go_or_work_keeps rooms slice world all =
      let works = work_all_keeps rooms slice world all in
      let gone = on_control world slice (λ worker. sent_home worker (place_done world worker.held)) in
      cond_keeps W (nat_lt (place_done world (control_at world slice).held) (length (control_at world slice).held))
      (cond (has_room home_room (control_at world slice).home) gone (work_all rooms slice world))
      (work_all rooms slice world)
      (cond_keeps W (has_room home_room (control_at world slice).home) gone (work_all rooms slice world)
      (steps.controls world slice (λ worker. sent_home worker (place_done world worker.held)) all) works)
      works

  pub control_turn_by_keeps : (rooms : Rooms) (slice : ℕ) (world : World) (orders : List ControlOrder) → W world
      → W (control_turn_by rooms slice world orders)
  control_turn_by_keeps rooms slice world [] all = go_or_work_keeps rooms slice world all
  control_turn_by_keeps rooms slice world (order ∷ orders) all =
      steps.controls world slice (λ worker. behind_order (record worker { orders = orders }) order) all

  -- turns of data workers
  abbrev pub DoingHolds : Doing → Type 0
  DoingHolds now = W now.world

  go_home_keeps : (slice : ℕ) (world : World) (waiting : Option ℕ) → W world → DoingHolds (go_home slice world waiting)
  go_home_keeps slice world None all = all
  go_home_keeps slice world (Some slot) all =
      cond_keeps DoingHolds (has_room home_room (data_at world slice).home)
      (doing (on_data world slice (λ worker. record worker { home = worker.home ++ slot ∷ []; waiting = None })) more)
      (doing world over)
      (steps.datas world slice (λ worker. record worker { home = worker.home ++ slot ∷ []; waiting = None })
      (λ s. omega arith) all) all

  handled_keeps : (slice : ℕ) (world : World) (slot : ℕ) → W world → DoingHolds (handled slice world slot)
  handled_keeps slice world slot all =
      cond_gives DoingHolds (may_handle (slot_at world slot)) (doing (on_slot world slot (handle (At slice))) more)
      (doing (on_data world slice (λ worker. record worker { kept = Some slot })) round)
      (λ may. steps.handles slice world slot may all)
      (λ other. steps.datas world slice (λ worker. record worker { kept = Some slot }) (λ s. omega arith) all)

  obeyed_keeps : (slice : ℕ) (world : World) (order : DataOrder) → W world → DoingHolds (obeyed slice world order)
  obeyed_keeps slice world (arrive slot) all =
      steps.datas world slice (λ worker. record worker { held = worker.held ++ slot ∷ [] }) (λ s. omega arith) all
  obeyed_keeps slice world (leave slot) all =
      steps.datas world slice (λ worker. left worker slot) (λ s. omega arith) all
  obeyed_keeps slice world (item slot) all =
      handled_keeps slice (on_slot world slot learn) slot (steps.learns world slot all)

  next_order_keeps : (slice : ℕ) (world : World) (kept : Option ℕ) (orders : List DataOrder)
      → (data_at world slice).orders ≡ orders → W world → DoingHolds (next_order slice world kept orders)
  next_order_keeps slice world (Some slot) orders is all =
      obeyed_keeps slice (on_data world slice (λ worker. record worker { kept = None })) (item slot)
      (steps.datas world slice (λ worker. record worker { kept = None }) (λ s. omega arith) all)
  next_order_keeps slice world None [] is all = all
  next_order_keeps slice world None (order ∷ orders) is all =
      obeyed_keeps slice (on_data world slice (λ worker. record worker { orders = orders })) order
      (steps.datas world slice (λ worker. record worker { orders = orders })
      (λ s. fewer_orders s order orders (data_at world slice).orders is) all)

  order_step_at_keeps : (slice : ℕ) (world : World) (going : Going) → W world
      → DoingHolds (order_step_at slice world going)
  order_step_at_keeps slice world more all =
      next_order_keeps slice world (data_at world slice).kept (data_at world slice).orders refl all
  order_step_at_keeps slice world round all = all
  order_step_at_keeps slice world over all = all

  take_orders_keeps : (slice : ℕ) (now : Doing) → DoingHolds now → DoingHolds (take_orders slice now)
  unfolding take_orders
  take_orders_keeps slice now all =
      times_keeps DoingHolds (order_step slice) (λ now all. order_step_at_keeps slice now.world now.going all)
      orders_taken now all

  learn_next_keeps : (slice : ℕ) (world : World) (held : List ℕ) → W world → W (learn_next slice world held)
  learn_next_keeps slice world [] all = all
  learn_next_keeps slice world (first ∷ others) all =
      let s = get_or (first ∷ others) (data_at world slice).cursor 0 in
      steps.datas (on_slot world s learn) slice
      (λ worker. record worker { cursor = cursor_next worker.cursor (length worker.held) }) (λ s. omega arith)
      (steps.learns world s all)

  turn_end_keeps : (slice : ℕ) (world : World) (going : Going) → W world → W (turn_end slice world going)
  turn_end_keeps slice world over all = all
  turn_end_keeps slice world more all = learn_next_keeps slice world (data_at world slice).held all
  turn_end_keeps slice world round all = learn_next_keeps slice world (data_at world slice).held all

  pub data_turn_keeps : (slice : ℕ) (world : World) → W world → W (data_turn slice world)
  data_turn_keeps slice world all =
      let now = take_orders slice (go_home slice world (data_at world slice).waiting) in
      turn_end_keeps slice now.world now.going
      (take_orders_keeps slice (go_home slice world (data_at world slice).waiting)
      (go_home_keeps slice world (data_at world slice).waiting all))

  -- lines with their turns
  pub turned_keeps : (rooms : Rooms) (world : World) (worker : ℕ) → W world → W (turned rooms world worker)
  turned_keeps rooms world worker all =
      cond_keeps W (worker % 2 == 0) (control_turn rooms (worker / 2) world) (data_turn (worker / 2) world)
      (control_turn_by_keeps rooms (worker / 2) world (control_at world (worker / 2)).orders all)
      (data_turn_keeps (worker / 2) world all)
