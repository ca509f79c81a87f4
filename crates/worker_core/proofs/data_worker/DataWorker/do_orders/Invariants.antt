use Rattle.std.proofs.Common.{◌≡◌, true, false}
use Rattle.std.specs.Prelude.{None, nat_lt}
use Rattle.lane_core.specs.Ends.{sent}
use Rattle.worker_core.specs.DataWorkers.{worker_lanes, place_of, view_of}
use Rattle.worker_core.specs.DataDoing.{DoesMany}
use Rattle.worker_core.specs.DataSteps.{Along, HasServed}
use Rattle.worker_core.proofs.data_worker.DataWorker.do_orders.Given as goal

abbrev pub invariant-loop : goal.invariant-loop
invariant-loop g l =
    (worker_lanes l.self ≡ worker_lanes l.fn.self)
    × (place_of l.self ≡ place_of l.fn.self)
    × (l.self.waiting ≡ None)
    × (sent l.self.home ≡ sent l.fn.self.home)
    × Along g.H.DataTraveller.learns (view_of l.fn.self) (view_of l.self)
    × (l.worked ≡ true
    → HasServed g.H.DataTraveller.name
    (λ half. g.H.DataTraveller.slot_at (g.H.DataTraveller.name half)) g.H.DataTraveller.item_slot g.H.DataTraveller.handled g.H.DataTraveller.takes g.H.DataTraveller.asks
    g.H.DataTraveller.learns (view_of l.fn.self) (view_of l.self))
    × (l.worked ≡ false → (view_of l.self ≡ view_of l.fn.self) × (l.counter ≡ 0))
    × (l.worked ≡ nat_lt 0 l.counter)
    × DoesMany g.H.DataTraveller (place_of l.fn.self) l.counter (view_of l.fn.self) (view_of l.self)
