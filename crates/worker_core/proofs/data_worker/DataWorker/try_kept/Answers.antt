use Rattle.std.proofs.Common.{rules, ◌++◌, ◌∙◌, refl, subst, sym}
use Rattle.std.specs.Prelude.{Option, Some}
use Rattle.std.specs.Option.{option_to_list}
use Rattle.lane_core.specs.Ends.{sent, taken}
use Rattle.worker_core.specs.declared.data_serving.TriedItem.{TriedItem}
use Rattle.worker_core.specs.DataSteps.{Handed}
use Rattle.worker_core.specs.DataPlaces.{brought}
use Rattle.worker_core.proofs.DataChanges.{changed_brings}
use Rattle.worker_core.proofs.DataKnowing.{Knows, knows_same, knows_handled, kept_found, none_among, found_slot}
use Rattle.worker_core.proofs.data_worker.DataWorker.try_kept.Goals as goal

pub unreachable-requires-in_default-find : goal.unreachable-requires-in_default-find
unreachable-requires-in_default-find g c =
    let w = c.args.self.now in
    let laws = g.met.H.DataTraveller g.world.𝓛 g.world.𝓜 g.world.𝓡 ((λ s x. x), (λ x. x), (λ x. x), λ x. x) in
    kept_found g.H.DataTraveller.name g.H.DataTraveller.slot_at g.H.DataTraveller.item_slot g.H.DataTraveller.handled (taken w.orders) w.held.items w.kept
    (sent w.home ++ option_to_list w.waiting) c.in-Some.item (sym c.take.ensures.value ∙ c.in-Some.is)
    (w.names, w.holds, w.sends, w.stands)
    (none_among g.H.DataKind.slot_of_half (λ half. g.H.DataTraveller.slot_at (g.H.DataTraveller.name half)) laws.half_slots
    (g.H.DataTraveller.item_slot c.in-Some.item) c.slot_of.result
    w.held.items c.deref.result.now c.deref.ensures.value (c.slot_of.ensures ∙ sym (laws.item_slots c.in-Some.item))
    (c.in_default-find.ensures.none refl))

pub invariant_of-self : goal.invariant_of-self
invariant_of-self g c =
    let w = c.args.self.now in
    let laws = g.met.H.DataTraveller g.world.𝓛 g.world.𝓜 g.world.𝓡 ((λ s x. x), (λ x. x), (λ x. x), λ x. x) in
    let change = c.in-Ok-Handled.ensures.changed in
    let handed = subst
    (λ (t : TriedItem). Handed g.H.DataTraveller.handled g.H.DataTraveller.takes g.H.DataTraveller.asks g.H.DataTraveller.learns t c.in-Some.item change.0
    change.1)
    c.in-Ok-Handled.field-0-is change.3 in
    let slot = found_slot g.H.DataKind.slot_of_half (λ half. g.H.DataTraveller.slot_at (g.H.DataTraveller.name half)) laws.half_slots
    (g.H.DataTraveller.item_slot c.in-Some.item) c.slot_of.result
    w.held.items c.deref.result.now c.in-Some-find.at change.0 change.2.there c.deref.ensures.value
    (c.slot_of.ensures ∙ sym (laws.item_slots c.in-Some.item))
    c.in-Some-find.ensures.found.1 in
    let knows = knows_handled (brought g.H.DataTraveller.name g.H.DataTraveller.places w.place)
    (λ bring. g.H.DataTraveller.slot_at bring.0) g.H.DataTraveller.item_slot g.H.DataTraveller.handled
    (taken w.orders) w.held.items c.hand_at.new.held.items w.kept
    (sent w.home ++ option_to_list w.waiting) c.in-Some-find.at change.0 change.1 c.in-Some.item
    (sym c.take.ensures.value ∙ c.in-Some.is)
    (changed_brings g.H.DataTraveller.name g.H.DataTraveller.places w.place c.in-Some-find.at change.0 change.1 w.held.items
    c.hand_at.new.held.items change.2 change.4) slot handed.0
    (w.here, w.holds, w.sends, w.stands) in
    let after = subst
    (λ (o : Option g.row.H-Item.Denot). Knows (brought g.H.DataTraveller.name g.H.DataTraveller.places w.place)
    (λ bring. g.H.DataTraveller.slot_at bring.0) g.H.DataTraveller.item_slot g.H.DataTraveller.handled
    (taken w.orders) c.hand_at.new.held.items o
    (sent w.home ++ option_to_list w.waiting)) (sym c.take.ensures.after) knows in
    record {
      names = λ h. after.0 (λ bring. h bring.0);
      here = after.0;
      holds = after.1;
      sends = after.2;
      stands = after.3;
      within = search rules;
    }

pub invariant_of-self-in-Ok-Waits : goal.invariant_of-self-in-Ok-Waits
invariant_of-self-in-Ok-Waits g c =
    let w = c.args.self.now in
    let change = c.in-Ok-Waits.ensures.changed in
    let handed = subst
    (λ (t : TriedItem). Handed g.H.DataTraveller.handled g.H.DataTraveller.takes g.H.DataTraveller.asks g.H.DataTraveller.learns t c.in-Some.item change.0
    change.1)
    c.in-Ok-Waits.field-0-is change.3 in
    let was = subst
    (λ (o : Option g.row.H-Item.Denot). Knows (brought g.H.DataTraveller.name g.H.DataTraveller.places w.place)
    (λ bring. g.H.DataTraveller.slot_at bring.0) g.H.DataTraveller.item_slot g.H.DataTraveller.handled
    (taken w.orders) w.held.items o
    (sent w.home ++ option_to_list w.waiting)) (sym c.take.ensures.value ∙ c.in-Some.is)
    (w.here, w.holds, w.sends, w.stands) in
    let knows = knows_same (brought g.H.DataTraveller.name g.H.DataTraveller.places w.place)
    (λ bring. g.H.DataTraveller.slot_at bring.0) g.H.DataTraveller.item_slot g.H.DataTraveller.handled
    (taken w.orders) w.held.items c.hand_at.new.held.items (Some c.in-Some.item)
    (sent w.home ++ option_to_list w.waiting) c.in-Some-find.at change.0 change.1
    (changed_brings g.H.DataTraveller.name g.H.DataTraveller.places w.place c.in-Some-find.at change.0 change.1 w.held.items
    c.hand_at.new.held.items change.2 change.4) handed.0 was in
    record {
      names = λ h. knows.0 (λ bring. h bring.0);
      here = knows.0;
      holds = knows.1;
      sends = knows.2;
      stands = knows.3;
      within = search rules;
    }

pub invariant_of-self-in-Err : goal.invariant_of-self-in-Err
invariant_of-self-in-Err g c =
    let w = c.args.self.now in
    let change = c.in-Err.ensures.err in
    let was = subst
    (λ (o : Option g.row.H-Item.Denot). Knows (brought g.H.DataTraveller.name g.H.DataTraveller.places w.place)
    (λ bring. g.H.DataTraveller.slot_at bring.0) g.H.DataTraveller.item_slot g.H.DataTraveller.handled
    (taken w.orders) w.held.items o
    (sent w.home ++ option_to_list w.waiting)) (sym c.take.ensures.value ∙ c.in-Some.is)
    (w.here, w.holds, w.sends, w.stands) in
    let knows = knows_same (brought g.H.DataTraveller.name g.H.DataTraveller.places w.place)
    (λ bring. g.H.DataTraveller.slot_at bring.0) g.H.DataTraveller.item_slot g.H.DataTraveller.handled
    (taken w.orders) w.held.items c.hand_at.new.held.items (Some c.in-Some.item)
    (sent w.home ++ option_to_list w.waiting) c.in-Some-find.at change.0 change.1
    (changed_brings g.H.DataTraveller.name g.H.DataTraveller.places w.place c.in-Some-find.at change.0 change.1 w.held.items
    c.hand_at.new.held.items change.2 change.4) change.3 was in
    record {
      names = λ h. knows.0 (λ bring. h bring.0);
      here = knows.0;
      holds = knows.1;
      sends = knows.2;
      stands = knows.3;
      within = search rules;
    }
