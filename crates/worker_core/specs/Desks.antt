-- What the desks of a side gave and took, and what one step at one of them changes.
use Rattle.std.specs.Prelude.{◌≡◌, ℕ, ◌<◌, ◌≤◌, List, [], ◌∷◌, ◌++◌, map, length, slice_index}
use Rattle.std.specs.Prelude.{slice_index_or, slice_set}
use Rattle.lane_core.specs.declared.ends.Receiver.{Receiver}
use Rattle.lane_core.specs.Ends.{sender_lane, sent, taken, full_answers, empty_answers, raised}
use Rattle.worker_core.specs.declared.desks.LaneDesk.{LaneDesk}
use Rattle.worker_core.specs.declared.order.Order.{Order}
use Rattle.worker_core.specs.Workers.{Lanes, desk_lanes}

-- a desk of a worker whose halves travel
abbrev pub Desk : Type 0 → Type 0
Desk H = LaneDesk (Order H) H

module _ {O H : Type 0} where
  abbrev pub lanes_of : List (LaneDesk O H) → List Lanes
  lanes_of desks = map desk_lanes desks

  -- the ends of the lanes home
  abbrev pub homes_of : List (LaneDesk O H) → List (Receiver H)
  homes_of desks = map (λ (desk : LaneDesk O H). desk.home) desks

  -- the orders that were sent to a slice, in order
  abbrev pub sent_at : List (LaneDesk O H) → ℕ → List (O)
  sent_at desks slice = slice_index_or (map (λ (desk : LaneDesk O H). sent desk.orders) desks) slice []

  -- the halves that were taken home from it, in order
  abbrev pub home_at : List (LaneDesk O H) → ℕ → List H
  home_at desks slice = slice_index_or (map (λ (desk : LaneDesk O H). taken desk.home) desks) slice []

  abbrev pub order_count : LaneDesk O H → ℕ
  order_count desk = length (sent desk.orders)

  -- how often the lane of a slice was full
  abbrev pub fulls_at : List (LaneDesk O H) → ℕ → ℕ
  fulls_at desks slice = slice_index (map (λ (desk : LaneDesk O H). full_answers desk.orders) desks) slice

  -- how many orders it has room for
  abbrev pub room_at : List (LaneDesk O H) → ℕ → ℕ
  room_at desks slice = slice_index (map (λ (desk : LaneDesk O H). (sender_lane desk.orders).room) desks) slice

  -- how many orders were sent to a slice
  abbrev pub sent_count : List (LaneDesk O H) → ℕ → ℕ
  sent_count desks slice = slice_index (map order_count desks) slice

  -- how often the lane home of a slice was empty
  abbrev pub empties_at : List (LaneDesk O H) → ℕ → ℕ
  empties_at desks slice = slice_index (map (λ (desk : LaneDesk O H). empty_answers desk.home) desks) slice

  -- how many halves came home from a slice
  abbrev pub home_count : List (LaneDesk O H) → ℕ → ℕ
  home_count desks slice = slice_index (map (λ (desk : LaneDesk O H). length (taken desk.home)) desks) slice

-- the desk of one slice changed, and its lanes are those it had
pub record DeskChanged {O H : Type 0} (slice : ℕ) (before now : LaneDesk O H) (old new : List (LaneDesk O H)) :
    Type 0 where
  pub within : slice < length old
  pub there : before ≡ slice_index_or old slice before
  pub changed : new ≡ slice_set old slice now
  pub lanes : desk_lanes now ≡ desk_lanes before

-- an order was put into the lane of a slice
pub record Given {O H : Type 0} (slice : ℕ) (order : O) (old new : List (LaneDesk O H)) : Type 0 where
  pub before : LaneDesk O H
  pub now : LaneDesk O H
  pub desk : DeskChanged slice before now old new
  pub home : now.home ≡ before.home
  pub sent : sent now.orders ≡ sent before.orders ++ order ∷ []
  pub fulls : full_answers now.orders ≡ full_answers before.orders

-- that lane was full, and as many orders as it has room for were sent in all
pub record Refused {O H : Type 0} (slice : ℕ) (old new : List (LaneDesk O H)) : Type 0 where
  pub before : LaneDesk O H
  pub now : LaneDesk O H
  pub desk : DeskChanged slice before now old new
  pub home : now.home ≡ before.home
  pub filled : (sender_lane before.orders).room ≤ length (sent before.orders)
  pub sent : sent now.orders ≡ sent before.orders
  pub fulls : full_answers now.orders ≡ raised (full_answers before.orders)

-- a half was taken from the lane home of a slice
pub record Taken {O H : Type 0} (slice : ℕ) (half : H) (old new : List (LaneDesk O H)) : Type 0 where
  pub before : LaneDesk O H
  pub now : LaneDesk O H
  pub desk : DeskChanged slice before now old new
  pub orders : now.orders ≡ before.orders
  pub taken : taken now.home ≡ taken before.home ++ half ∷ []
  pub empties : empty_answers now.home ≡ empty_answers before.home

-- that lane was empty
pub record Empty {O H : Type 0} (slice : ℕ) (old new : List (LaneDesk O H)) : Type 0 where
  pub before : LaneDesk O H
  pub now : LaneDesk O H
  pub desk : DeskChanged slice before now old new
  pub orders : now.orders ≡ before.orders
  pub taken : taken now.home ≡ taken before.home
  pub empties : empty_answers now.home ≡ raised (empty_answers before.home)
