use Rattle.std.proofs.Common.{rules, arith, ◌∙◌, sym, refl, true≢false}
use Rattle.worker_core.specs.declared.data_serving.Step.TheVariants.{Done, LeftNow, Stopped}
use Rattle.worker_core.specs.DataWorkers.{view_of, place_of, Does}
use Rattle.worker_core.specs.DataSteps.{Along, Ordered}
use Rattle.worker_core.proofs.DataCauses.{along_then, served_then, then_served}
use Rattle.worker_core.proofs.DataChains.{many_more, some_done, ends_left, ends_stopped, ends_full}
use Rattle.worker_core.proofs.data_worker.DataWorker.do_orders.Goals as goal

pub returns-then-worked-clause-worked : goal.returns-then-worked-clause-worked
returns-then-worked-clause-worked g c = λ _.
    let after : Along g.H.DataTraveller.learns (view_of c.loop.self) (view_of c.do_order.new.self) = search rules in
    served_then g.H.DataTraveller.learns (view_of c.args.self.now) (view_of c.loop.self)
    (view_of c.do_order.new.self) c.loop.invariant.4
    (c.loop.invariant.5 (search rules)) after

pub loop-preserved : goal.loop-preserved
loop-preserved g c =
    let first = view_of c.args.self.now in
    let old = view_of c.loop.self in
    let new = view_of c.do_order.new.self in
    let did : Ordered g.H.DataTraveller.name (λ half. g.H.DataTraveller.slot_at (g.H.DataTraveller.name half)) g.H.DataTraveller.item_slot g.H.DataTraveller.handled
    g.H.DataTraveller.takes g.H.DataTraveller.asks g.H.DataTraveller.learns Done old new = search rules in
    let one : Does Done c.loop.self c.do_order.new.self = search rules in (
      c.do_order.ensures.lanes ∙ c.loop.invariant.0,
      c.do_order.ensures.place ∙ c.loop.invariant.1,
      did.2 ∙ c.loop.invariant.2,
      did.1 ∙ c.loop.invariant.3,
      along_then g.H.DataTraveller.learns first old new c.loop.invariant.4 did.0,
      (λ _. then_served g.H.DataTraveller.learns first old new c.loop.invariant.4 did.3 did.0),
      (λ no. absurd (true≢false no)),
      sym (some_done c.loop.counter),
      many_more g.H.DataTraveller (place_of c.args.self.now) (place_of c.loop.self) c.loop.invariant.1 c.loop.counter _ first old
          new refl c.loop.invariant.8 one,
    )

pub returns-in-LeftNow-clause-whole : goal.returns-in-LeftNow-clause-whole
returns-in-LeftNow-clause-whole g c =
    let one : Does LeftNow c.loop.self c.do_order.new.self = search rules in
    ends_left g.H.DataTraveller (place_of c.args.self.now) (place_of c.loop.self) c.loop.invariant.1 c.loop.counter
    (view_of c.args.self.now) (view_of c.loop.self) (view_of c.do_order.new.self) (search (rules, arith))
    c.loop.invariant.8 one

pub returns-then-worked-clause-whole : goal.returns-then-worked-clause-whole
returns-then-worked-clause-whole g c =
    let one : Does (Stopped c.in-Stopped.learnt) c.loop.self c.do_order.new.self = search rules in
    ends_stopped g.H.DataTraveller (place_of c.args.self.now) (place_of c.loop.self) c.loop.invariant.1 c.loop.counter
    c.loop.worked c.in-Stopped.learnt _ (view_of c.args.self.now) (view_of c.loop.self) (view_of c.do_order.new.self)
    (search (rules, arith)) c.loop.invariant.7 (search rules) c.loop.invariant.8 one

pub returns-clause-whole : goal.returns-clause-whole
returns-clause-whole g c =
    ends_full g.H.DataTraveller (place_of c.args.self.now) c.loop.counter c.loop.worked (view_of c.args.self.now)
    (view_of c.loop.self) (search (rules, arith)) c.loop.invariant.7 c.loop.invariant.8
