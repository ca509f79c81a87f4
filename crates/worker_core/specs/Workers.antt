-- What a clause says of a worker and of its end.
use Rattle.std.specs.Prelude.{◌≡◌, ℕ, ◌≤◌, List, [], ◌∷◌, ◌++◌}
use Rattle.lane_core.specs.declared.ends.Sender.{Sender}
use Rattle.lane_core.specs.declared.ends.Receiver.{Receiver}
use Rattle.lane_core.specs.Ends.{Lane, sender_lane, receiver_lane, sent, taken, full_answers, empty_answers}
use Rattle.worker_core.specs.declared.order.Order.{Order}
use Rattle.worker_core.specs.declared.desks.LaneDesk.{LaneDesk}
use Rattle.worker_core.specs.declared.traveller.Traveller.{Ghosts}
use Rattle.worker_core.specs.declared.worker.Worker.{Worker}
use Rattle.worker_core.specs.declared.worker.WorkerEnd.{WorkerEnd}
use Rattle.worker_core.specs.Leaves.{IsOrdered}
use Rattle.worker_core.specs.Steps.{View}

-- the lane of orders and the lane home
abbrev pub Lanes : Type 0
Lanes = Lane × Lane

module _ {O H : Type 0} where
  abbrev pub desk_lanes : LaneDesk O H → Lanes
  desk_lanes desk = (sender_lane desk.orders, receiver_lane desk.home)

  -- nothing was sent or taken at it yet
  abbrev pub IsNewDesk : LaneDesk O H → Type 0
  IsNewDesk desk = (sent desk.orders ≡ []) × (taken desk.home ≡ [])

module _ {H N : Type 0} {g : Ghosts H N} where
  abbrev pub orders_of : Worker H N g → Receiver (Order H)
  orders_of worker = worker.orders

  abbrev pub home_of : Worker H N g → Sender H
  home_of worker = worker.home

  -- the halves that it holds, in the order in which they came
  abbrev pub held_of : Worker H N g → List H
  held_of worker = worker.held.items

  abbrev pub place_of : Worker H N g → ℕ
  place_of worker = worker.place

  abbrev pub worker_lanes : Worker H N g → Lanes
  worker_lanes worker = (receiver_lane worker.orders, sender_lane worker.home)

  abbrev pub end_lanes : WorkerEnd H N g → Lanes
  end_lanes end = (receiver_lane end.orders, sender_lane end.home)

  -- what it has
  abbrev pub view_of : Worker H N g → View H
  view_of worker = record {
    took = taken worker.orders;
    gone = sent worker.home;
    held = worker.held.items;
    leaving = worker.leaving.items;
    cursor = worker.cursor;
    fulls = full_answers worker.home;
    empties = empty_answers worker.orders;
  }

-- one half more was sent home, an order told it to leave at a count, and it has reached that
pub record GoesHome {H N : Type 0} (name : H → N) (slot_of : N → ℕ) (done : H
    → ℕ) (came : List (Order H)) (old new : List H) : Type 0 where
  pub half : H
  pub until : ℕ
  pub sent_last : new ≡ old ++ half ∷ []
  pub ordered : IsOrdered came (slot_of (name half)) until
  pub reached : until ≤ done half
