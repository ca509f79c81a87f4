-- The steps of the pump and of turns.
use Rattle.std.proofs.Common.{◌≡◌, ℕ, ◌+◌, ◌≤◌, ◌==◌, Bool, true, false, List, [], ◌∷◌, ◌++◌, map, refl, sym, subst, true≢false}
use Rattle.std.specs.List.{count_by}
use Rattle.pc_base.specs.declared.packet.Place.TheVariants.{At}
use Rattle.epoch_schedule.specs.Slots.{Standing, absent, front, placed, recalled, leaving, is_placed, is_absent}
use Rattle.epoch_schedule.specs.Halves.{control_work, learn, may_handle, handle}
use Rattle.epoch_schedule.specs.World.{World, Rooms, DataOrder, arrive, item, leave, ControlNow, DataNow, slot_at, on_slot, on_control, data_at, on_data}
use Rattle.epoch_schedule.specs.Front.{data_back, drained}

-- orders of a slot in a lane
abbrev pub order_slot : DataOrder → ℕ
order_slot (arrive slot) = slot
order_slot (item slot) = slot
order_slot (leave slot) = slot

abbrev pub times_in : ℕ → List ℕ → ℕ
times_in s slots = count_by (λ own. own == s) slots

abbrev pub orders_of : ℕ → List DataOrder → ℕ
orders_of s orders = times_in s (map order_slot orders)

-- how many orders its data half still brings, before the next move
abbrev pub owed_by : Standing → ℕ
owed_by absent = 0
owed_by front = 1
owed_by (placed slice) = 0
owed_by (recalled slice until) = 2
owed_by leaving = 1

abbrev pub is_called : Standing → Bool
is_called absent = false
is_called front = false
is_called (placed slice) = false
is_called (recalled slice until) = true
is_called leaving = true

-- how a data half stands behind an order, and how before it
pub record Follows (old new : Standing) : Type 0 where
  pub owed : owed_by old ≡ owed_by new + 1
  pub there : is_absent new ≡ is_absent old
  pub away : is_placed old ≡ false
  pub called : is_called new ≡ true → is_called old ≡ true

pub follows_arrival : (slice : ℕ) (old : Standing) → old ≡ front → Follows old (placed slice)
follows_arrival slice old is = subst (λ from. Follows from (placed slice)) (sym is) (record {
  owed = refl;
  there = refl;
  away = refl;
  called = λ no. absurd (true≢false (sym no));
})

pub follows_leave : (slice until : ℕ) (old : Standing) → old ≡ recalled slice until → Follows old leaving
follows_leave slice until old is = subst (λ from. Follows from leaving) (sym is) (record {
  owed = refl;
  there = refl;
  away = refl;
  called = λ yes_is. yes_is;
})

-- what is kept by each step of a worker's turn
pub record TurnSteps (W : World → Type 0) : Type 0 where
  pub controls : (world : World) (slice : ℕ) (change : ControlNow → ControlNow) → W world
      → W (on_control world slice change)
  pub datas : (world : World) (slice : ℕ) (change : DataNow → DataNow)
      → ((s : ℕ) → orders_of s (change (data_at world slice)).orders ≤ orders_of s (data_at world slice).orders)
      → W world → W (on_data world slice change)
  pub works : (room : ℕ) (world : World) (s : ℕ) → W world
      → W (on_slot world s (λ slot. (control_work room slot).slot))
  pub learns : (world : World) (s : ℕ) → W world → W (on_slot world s learn)
  pub handles : (slice : ℕ) (world : World) (s : ℕ) → may_handle (slot_at world s) ≡ true → W world
      → W (on_slot world s (handle (At slice)))

-- what is kept by each step
pub record Steps (W : World → Type 0) : Type 0 where
  pub controls : (world : World) (slice : ℕ) (change : ControlNow → ControlNow) → W world
      → W (on_control world slice change)
  pub datas : (world : World) (slice : ℕ) (change : DataNow → DataNow)
      → ((s : ℕ) → orders_of s (change (data_at world slice)).orders ≤ orders_of s (data_at world slice).orders)
      → W world → W (on_data world slice change)
  pub stands : (world : World) (s : ℕ) (standing : Standing)
      → is_absent standing ≡ is_absent (slot_at world s).control
      → W world → W (on_slot world s (λ slot. record slot { control = standing }))
  pub arrives : (world : World) (s : ℕ) → W world → W (on_slot world s (λ slot. record slot { arrived = slot.hop }))
  pub backs : (world : World) (s : ℕ) → W world → W (data_back world s)
  pub gives : (world : World) (slice s : ℕ) (order : DataOrder) (standing : Standing) → order_slot order ≡ s
      → Follows (slot_at world s).data_half standing → W world
      → W (on_slot (on_data world slice (λ worker. record worker { orders = worker.orders ++ order ∷ [] })) s
      (λ slot. record slot { data_half = standing }))
  pub drains : (rooms : Rooms) (world : World) (slice s n : ℕ) → n ≤ (slot_at world s).queued → W world
      → W (drained rooms world slice s n)
  pub works : (room : ℕ) (world : World) (s : ℕ) → W world
      → W (on_slot world s (λ slot. (control_work room slot).slot))
  pub learns : (world : World) (s : ℕ) → W world → W (on_slot world s learn)
  pub handles : (slice : ℕ) (world : World) (s : ℕ) → may_handle (slot_at world s) ≡ true → W world
      → W (on_slot world s (handle (At slice)))
