use Rattle.std.proofs.Common.{rules, ◌++◌, ap}
use Rattle.std.specs.Option.{option_to_list}
use Rattle.lane_core.specs.Ends.{sent, taken}
use Rattle.worker_core.specs.DataPlaces.{before_here, brought}
use Rattle.worker_core.proofs.DataChanges.{changed_brings}
use Rattle.worker_core.proofs.DataKnowing.{knows_same}
use Rattle.worker_core.proofs.data_worker.DataWorker.learn_next.Goals as goal

pub invariant_of-self : goal.invariant_of-self
invariant_of-self g c =
    let w = c.args.self.now in
    let change = c.learn_at.ensures.changed in
    let knows = knows_same (brought g.H.DataTraveller.name g.H.DataTraveller.places w.place)
    (λ bring. g.H.DataTraveller.slot_at bring.0) g.H.DataTraveller.item_slot g.H.DataTraveller.handled
    (taken w.orders) w.held.items c.learn_at.new.held.items
    w.kept (sent w.home ++ option_to_list w.waiting) w.cursor change.0 change.1
    (changed_brings g.H.DataTraveller.name g.H.DataTraveller.places w.place w.cursor change.0 change.1 w.held.items
    c.learn_at.new.held.items change.2 (ap (before_here w.place) change.4)) change.3.lists
    (w.here, w.holds, w.sends, w.stands) in
    record {
      names = λ h. knows.0 (λ bring. h bring.0);
      here = knows.0;
      holds = knows.1;
      sends = knows.2;
      stands = knows.3;
      within = search rules;
    }

pub invariant_of-self-2 : goal.invariant_of-self-2
invariant_of-self-2 g c =
    let w = c.args.self.now in
    let change = c.learn_at.ensures.changed in
    let knows = knows_same (brought g.H.DataTraveller.name g.H.DataTraveller.places w.place)
    (λ bring. g.H.DataTraveller.slot_at bring.0) g.H.DataTraveller.item_slot g.H.DataTraveller.handled
    (taken w.orders) w.held.items c.learn_at.new.held.items
    w.kept (sent w.home ++ option_to_list w.waiting) w.cursor change.0 change.1
    (changed_brings g.H.DataTraveller.name g.H.DataTraveller.places w.place w.cursor change.0 change.1 w.held.items
    c.learn_at.new.held.items change.2 (ap (before_here w.place) change.4)) change.3.lists
    (w.here, w.holds, w.sends, w.stands) in
    record {
      names = λ h. knows.0 (λ bring. h bring.0);
      here = knows.0;
      holds = knows.1;
      sends = knows.2;
      stands = knows.3;
      within = search rules;
    }
