use Rattle.std.proofs.Common.{rules, ◌≡◌, ◌++◌, subst, ap, sym, ◌∙◌}
use Rattle.std.specs.Prelude.{Option, Some}
use Rattle.std.specs.Option.{option_to_list}
use Rattle.lane_core.specs.Ends.{sent, taken}
use Rattle.worker_core.specs.DataStays.{NamesKept}
use Rattle.worker_core.specs.DataPlaces.{brought}
use Rattle.worker_core.proofs.DataKnowing.{left_few, left_home, knows_left}
use Rattle.worker_core.proofs.data_worker.DataWorker.send_waiting.Goals as goal

pub invariant_of-self : goal.invariant_of-self
invariant_of-self g c =
    let w = c.args.self.now in
    let same : sent w.home ++ option_to_list c.take.new.self ≡ sent w.home ++ option_to_list w.waiting =
    ap (λ o. sent w.home ++ option_to_list o)
    (c.take.ensures.after ∙ sym (sym c.take.ensures.value ∙ c.in_default.is)) in
    let knows = knows_left (brought g.H.DataTraveller.name g.H.DataTraveller.places w.place)
    (λ bring. g.H.DataTraveller.slot_at bring.0) g.H.DataTraveller.item_slot g.H.DataTraveller.handled
    (taken w.orders) w.held.items w.kept
    (sent w.home ++ option_to_list w.waiting) (sent w.home ++ option_to_list c.take.new.self) same
    (w.here, w.holds, w.sends, w.stands) in
    record {
      names = λ h. knows.0 (λ bring. h bring.0);
      here = knows.0;
      holds = knows.1;
      sends = knows.2;
      stands = knows.3;
      within = search rules;
    }

pub offer-requires-clause-few : goal.offer-requires-clause-few
offer-requires-clause-few g c κs within =
    let w = c.args.self.now in
    left_few g.H.DataTraveller.name (taken w.orders) w.held.items (sent w.home) c.in-Some.half w.orders.few
    (subst (λ (o : Option g.row.H.Denot). NamesKept g.H.DataTraveller.name (taken w.orders) w.held.items
    (sent w.home ++ option_to_list o)) (sym c.take.ensures.value ∙ c.in-Some.is) w.names)

pub invariant_of-self-in-Ok : goal.invariant_of-self-in-Ok
invariant_of-self-in-Ok g c =
    let w = c.args.self.now in
    let same : sent c.offer.new.self ++ option_to_list c.take.new.self ≡ sent w.home ++ option_to_list w.waiting =
    ap (λ o. sent c.offer.new.self ++ option_to_list o) c.take.ensures.after
    ∙ left_home (sent w.home) (sent c.offer.new.self) w.waiting c.in-Some.half
    (sym c.take.ensures.value ∙ c.in-Some.is) c.in-Ok.ensures.ok.0 in
    let knows = knows_left (brought g.H.DataTraveller.name g.H.DataTraveller.places w.place)
    (λ bring. g.H.DataTraveller.slot_at bring.0) g.H.DataTraveller.item_slot g.H.DataTraveller.handled
    (taken w.orders) w.held.items w.kept
    (sent w.home ++ option_to_list w.waiting) (sent c.offer.new.self ++ option_to_list c.take.new.self) same
    (w.here, w.holds, w.sends, w.stands) in
    record {
      names = λ h. knows.0 (λ bring. h bring.0);
      here = knows.0;
      holds = knows.1;
      sends = knows.2;
      stands = knows.3;
      within = search rules;
    }

pub invariant_of-self-in-Err : goal.invariant_of-self-in-Err
invariant_of-self-in-Err g c =
    let w = c.args.self.now in
    let same : sent c.offer.new.self ++ option_to_list (Some c.in-Err.field-0.0) ≡ sent w.home
    ++ option_to_list w.waiting =
    (λ i. c.in-Err.ensures.full.1 i ++ option_to_list (Some (c.in-Err.ensures.full.0 i)))
    ∙ ap (λ o. sent w.home ++ option_to_list o) (sym (sym c.take.ensures.value ∙ c.in-Some.is)) in
    let knows = knows_left (brought g.H.DataTraveller.name g.H.DataTraveller.places w.place)
    (λ bring. g.H.DataTraveller.slot_at bring.0) g.H.DataTraveller.item_slot g.H.DataTraveller.handled
    (taken w.orders) w.held.items w.kept
    (sent w.home ++ option_to_list w.waiting) (sent c.offer.new.self ++ option_to_list (Some c.in-Err.field-0.0)) same
    (w.here, w.holds, w.sends, w.stands) in
    record {
      names = λ h. knows.0 (λ bring. h bring.0);
      here = knows.0;
      holds = knows.1;
      sends = knows.2;
      stands = knows.3;
      within = search rules;
    }
