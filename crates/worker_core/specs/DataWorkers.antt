-- What a clause says of a worker and of its end.
use Rattle.std.specs.Prelude.{ℕ, Bool, List, Option}
use Rattle.lane_core.specs.declared.ends.Sender.{Sender}
use Rattle.lane_core.specs.declared.ends.Receiver.{Receiver}
use Rattle.lane_core.specs.Ends.{sender_lane, receiver_lane, sent, taken, full_answers, empty_answers}
use Rattle.worker_core.specs.Workers.{Lanes}
use Rattle.worker_core.specs.declared.data_order.DataOrder.{DataOrder}
use Rattle.worker_core.specs.declared.data_half.DataTraveller.{Ghosts}
use Rattle.worker_core.specs.declared.data_worker.DataWorker.{DataWorker}
use Rattle.worker_core.specs.declared.data_worker.DataEnd.{DataEnd}
use Rattle.lane_core.specs.declared.did.Did.{Did}
use Rattle.worker_core.specs.declared.data_serving.TriedItem.{TriedItem}
use Rattle.worker_core.specs.declared.data_serving.OrderTaken.{OrderTaken}
use Rattle.worker_core.specs.declared.data_serving.Step.{Step}
use Rattle.worker_core.specs.declared.data_serving.Served.{Served}
use Rattle.worker_core.specs.DataDoing.{TakesAs, HandsKept, DoesOne, DoesOrders, LearnsNext, TurnsAs}
use Rattle.worker_core.specs.DataTurns.{View}

module _ {H N I : Type 0} {g : Ghosts H N I} where
  abbrev pub orders_of : DataWorker H N I g → Receiver (DataOrder H I)
  orders_of worker = worker.orders

  abbrev pub home_of : DataWorker H N I g → Sender H
  home_of worker = worker.home

  -- the halves that it holds, in the order in which they came
  abbrev pub held_of : DataWorker H N I g → List H
  held_of worker = worker.held.items

  abbrev pub waiting_of : DataWorker H N I g → Option H
  waiting_of worker = worker.waiting

  abbrev pub kept_of : DataWorker H N I g → Option I
  kept_of worker = worker.kept

  abbrev pub place_of : DataWorker H N I g → ℕ
  place_of worker = worker.place

  abbrev pub worker_lanes : DataWorker H N I g → Lanes
  worker_lanes worker = (receiver_lane worker.orders, sender_lane worker.home)

  abbrev pub end_lanes : DataEnd H N I g → Lanes
  end_lanes end = (receiver_lane end.orders, sender_lane end.home)

  -- what it has
  abbrev pub view_of : DataWorker H N I g → View H I
  view_of worker = record {
    took = taken worker.orders;
    gone = sent worker.home;
    held = worker.held.items;
    waiting = worker.waiting;
    kept = worker.kept;
    cursor = worker.cursor;
    fulls = full_answers worker.home;
    empties = empty_answers worker.orders;
  }

  -- what its steps and its turn come to, whole
  abbrev pub Takes : OrderTaken → DataWorker H N I g → DataWorker H N I g → Type 0
  Takes took old new = TakesAs g (place_of old) took (view_of old) (view_of new)

  abbrev pub Hands : TriedItem → DataWorker H N I g → DataWorker H N I g → Type 0
  Hands tried old new = HandsKept g (place_of old) tried (view_of old) (view_of new)

  abbrev pub Does : Step → DataWorker H N I g → DataWorker H N I g → Type 0
  Does step old new = DoesOne g (place_of old) step (view_of old) (view_of new)

  abbrev pub DoesAll : Served → DataWorker H N I g → DataWorker H N I g → Type 0
  DoesAll served old new = DoesOrders g (place_of old) served (view_of old) (view_of new)

  abbrev pub AsksOne : Bool → DataWorker H N I g → DataWorker H N I g → Type 0
  AsksOne learnt old new = LearnsNext g (place_of old) learnt (view_of old) (view_of new)

  abbrev pub Turns : Did → DataWorker H N I g → DataWorker H N I g → Type 0
  Turns answer old new = TurnsAs g (place_of old) answer (view_of old) (view_of new)
