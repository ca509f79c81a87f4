use Rattle.std.proofs.Common.{rules, ◌≡◌, ◌++◌, ◌∷◌, [], ◌<◌, length, get_or, ◌∙◌, refl, ap, arith}
use Rattle.std.specs.Prelude.{Some}
use Rattle.std.specs.List.{remove}
use Rattle.std.specs.Option.{option_to_list}
use Rattle.lane_core.specs.Ends.{sent, taken}
use Rattle.worker_core.specs.declared.data_order.DataOrder.TheVariants.{Arrive, Item, Leave}
use Rattle.worker_core.specs.DataPlaces.{brought}
use Rattle.worker_core.proofs.DataKnowing.{knows_arrive, knows_item, knows_leave, knows_lists, leaving_found, law_last}
use Rattle.worker_core.proofs.DataKnowing.{none_among, found_slot}
use Rattle.worker_core.proofs.data_worker.DataWorker.take_order.Goals as goal

pub invariant_of-self : goal.invariant_of-self
invariant_of-self g c =
    let w = c.args.self.now in
    let knows = knows_lists (brought g.H.DataTraveller.name g.H.DataTraveller.places w.place)
    (λ bring. g.H.DataTraveller.slot_at bring.0) g.H.DataTraveller.item_slot g.H.DataTraveller.handled (taken w.orders)
    (taken w.orders) w.held.items c.reserve.new.self.items
    w.kept (sent w.home ++ option_to_list w.waiting) refl c.reserve.ensures.items
    (w.here, w.holds, w.sends, w.stands) in
    record {
      names = λ h. knows.0 (λ bring. h bring.0);
      here = knows.0;
      holds = knows.1;
      sends = knows.2;
      stands = knows.3;
      within = search rules;
    }

pub invariant_of-self-in_default : goal.invariant_of-self-in_default
invariant_of-self-in_default g c =
    let w = c.args.self.now in
    let knows = knows_lists (brought g.H.DataTraveller.name g.H.DataTraveller.places w.place)
    (λ bring. g.H.DataTraveller.slot_at bring.0) g.H.DataTraveller.item_slot g.H.DataTraveller.handled (taken w.orders)
    (taken c.take.new.self) w.held.items c.reserve.new.self.items
    w.kept (sent w.home ++ option_to_list w.waiting) c.in_default.ensures.next.0 c.reserve.ensures.items
    (w.here, w.holds, w.sends, w.stands) in
    record {
      names = λ h. knows.0 (λ bring. h bring.0);
      here = knows.0;
      holds = knows.1;
      sends = knows.2;
      stands = knows.3;
      within = search rules;
    }

pub invariant_of-self-in-Arrive : goal.invariant_of-self-in-Arrive
invariant_of-self-in-Arrive g c =
    let w = c.args.self.now in
    let laws = g.met.H.DataTraveller g.world.𝓛 g.world.𝓜 g.world.𝓡 ((λ s x. x), (λ x. x), (λ x. x), λ x. x) in
    let came : taken c.take.new.self ≡ taken w.orders ++ Arrive c.in-Arrive.half ∷ [] =
    c.in-Some.ensures.next.0 ∙ ap (λ o. taken w.orders ++ o ∷ []) c.in-Arrive.is in
    let law = law_last g.H.DataKind.slot_of_half
    (λ half. g.H.DataTraveller.slot_at (g.H.DataTraveller.name half)) g.H.DataKind.slot_of_item g.H.DataTraveller.item_slot laws.half_slots
    laws.item_slots
    (taken w.orders) (taken c.take.new.self) (Arrive c.in-Arrive.half) came c.take.ensures.lawful in
    let knows = knows_arrive (brought g.H.DataTraveller.name g.H.DataTraveller.places w.place)
    (λ bring. g.H.DataTraveller.slot_at bring.0) g.H.DataTraveller.item_slot g.H.DataTraveller.handled (taken w.orders)
    (taken c.take.new.self) w.held.items
    c.push_reserved.new.self.items w.kept
    (sent w.home ++ option_to_list w.waiting) c.in-Arrive.half c.requires.free law came
    (c.push_reserved.ensures.items ∙ ap (λ l. l ++ c.in-Arrive.half ∷ []) c.reserve.ensures.items)
    (w.here, w.holds, w.sends, w.stands) in
    record {
      names = λ h. knows.0 (λ bring. h bring.0);
      here = knows.0;
      holds = knows.1;
      sends = knows.2;
      stands = knows.3;
      within = search rules;
    }

pub invariant_of-self-in-Item : goal.invariant_of-self-in-Item
invariant_of-self-in-Item g c =
    let w = c.args.self.now in
    let laws = g.met.H.DataTraveller g.world.𝓛 g.world.𝓜 g.world.𝓡 ((λ s x. x), (λ x. x), (λ x. x), λ x. x) in
    let came : taken c.take.new.self ≡ taken w.orders ++ Item c.in-Item.item ∷ [] =
    c.in-Some.ensures.next.0 ∙ ap (λ o. taken w.orders ++ o ∷ []) c.in-Item.is in
    let law = law_last g.H.DataKind.slot_of_half
    (λ half. g.H.DataTraveller.slot_at (g.H.DataTraveller.name half)) g.H.DataKind.slot_of_item g.H.DataTraveller.item_slot laws.half_slots
    laws.item_slots
    (taken w.orders) (taken c.take.new.self) (Item c.in-Item.item) came c.take.ensures.lawful in
    let before = knows_item (brought g.H.DataTraveller.name g.H.DataTraveller.places w.place)
    (λ bring. g.H.DataTraveller.slot_at bring.0) g.H.DataTraveller.item_slot g.H.DataTraveller.handled (taken w.orders)
    (taken c.take.new.self) w.held.items
    w.kept (sent w.home ++ option_to_list w.waiting) c.in-Item.item c.requires.free law came
    (w.here, w.holds, w.sends, w.stands) in
    let knows = knows_lists (brought g.H.DataTraveller.name g.H.DataTraveller.places w.place)
    (λ bring. g.H.DataTraveller.slot_at bring.0) g.H.DataTraveller.item_slot g.H.DataTraveller.handled (taken c.take.new.self)
    (taken c.take.new.self) w.held.items c.reserve.new.self.items
    (Some c.in-Item.item) (sent w.home ++ option_to_list w.waiting) refl c.reserve.ensures.items before in
    record {
      names = λ h. knows.0 (λ bring. h bring.0);
      here = knows.0;
      holds = knows.1;
      sends = knows.2;
      stands = knows.3;
      within = search rules;
    }

pub unreachable-requires : goal.unreachable-requires
unreachable-requires g c =
    let w = c.args.self.now in
    let laws = g.met.H.DataTraveller g.world.𝓛 g.world.𝓜 g.world.𝓡 ((λ s x. x), (λ x. x), (λ x. x), λ x. x) in
    let came : taken c.take.new.self ≡ taken w.orders ++ Leave c.in-Leave.slot ∷ [] =
    c.in-Some.ensures.next.0 ∙ ap (λ o. taken w.orders ++ o ∷ []) c.in-Leave.is in
    let law = law_last g.H.DataKind.slot_of_half
    (λ half. g.H.DataTraveller.slot_at (g.H.DataTraveller.name half)) g.H.DataKind.slot_of_item g.H.DataTraveller.item_slot laws.half_slots
    laws.item_slots
    (taken w.orders) (taken c.take.new.self) (Leave c.in-Leave.slot) came c.take.ensures.lawful in
    leaving_found g.H.DataTraveller.name g.H.DataTraveller.slot_at g.H.DataTraveller.item_slot g.H.DataTraveller.handled
    (taken w.orders) w.held.items w.kept (sent w.home ++ option_to_list w.waiting)
    c.in-Leave.slot law (w.names, w.holds, w.sends, w.stands)
    (none_among g.H.DataKind.slot_of_half
    (λ half. g.H.DataTraveller.slot_at (g.H.DataTraveller.name half)) laws.half_slots c.in-Leave.slot c.in-Leave.slot
    w.held.items c.deref.result.now (c.deref.ensures.value ∙ c.reserve.ensures.items) refl
    (c.in_default-find.ensures.none refl))

pub invariant_of-self-in-Leave : goal.invariant_of-self-in-Leave
invariant_of-self-in-Leave g c =
    let w = c.args.self.now in
    let laws = g.met.H.DataTraveller g.world.𝓛 g.world.𝓜 g.world.𝓡 ((λ s x. x), (λ x. x), (λ x. x), λ x. x) in
    let came : taken c.take.new.self ≡ taken w.orders ++ Leave c.in-Leave.slot ∷ [] =
    c.in-Some.ensures.next.0 ∙ ap (λ o. taken w.orders ++ o ∷ []) c.in-Leave.is in
    let half = c.remove.result in
    let at = c.in-Some-find.at in
    let seen = c.deref.ensures.value ∙ c.reserve.ensures.items in
    let within : at
    < length w.held.items = let a = c.in-Some-find.ensures.found.0 in let b = ap length seen in omega arith in
    let there : half
    ≡ get_or w.held.items at half = c.remove.ensures.value ∙ ap (λ l. get_or l at half) c.reserve.ensures.items in
    let slot = found_slot g.H.DataKind.slot_of_half
    (λ half. g.H.DataTraveller.slot_at (g.H.DataTraveller.name half)) laws.half_slots c.in-Leave.slot c.in-Leave.slot
    w.held.items c.deref.result.now at half there seen refl c.in-Some-find.ensures.found.1 in
    let fewer : c.remove.new.self.items
    ≡ remove w.held.items at = c.remove.ensures.items ∙ ap (λ l. remove l at) c.reserve.ensures.items in
    let knows = knows_leave (brought g.H.DataTraveller.name g.H.DataTraveller.places w.place)
    (λ bring. g.H.DataTraveller.slot_at bring.0) g.H.DataTraveller.item_slot g.H.DataTraveller.handled (taken w.orders)
    (taken c.take.new.self) w.held.items c.remove.new.self.items
    w.kept (sent w.home) w.waiting at half c.in-Leave.slot c.requires.free c.requires.none within there slot came fewer
    (w.here, w.holds, w.sends, w.stands) in
    record {
      names = λ h. knows.0 (λ bring. h bring.0);
      here = knows.0;
      holds = knows.1;
      sends = knows.2;
      stands = knows.3;
      within = search rules;
    }

pub returns-in-Some-find-clause-whole : goal.returns-in-Some-find-clause-whole
returns-in-Some-find-clause-whole g c =
    let w = c.args.self.now in
    let laws = g.met.H.DataTraveller g.world.𝓛 g.world.𝓜 g.world.𝓡 ((λ s x. x), (λ x. x), (λ x. x), λ x. x) in
    let half = c.remove.result in
    let at = c.in-Some-find.at in
    let seen = c.deref.ensures.value ∙ c.reserve.ensures.items in
    let within : at
    < length w.held.items = let a = c.in-Some-find.ensures.found.0 in let b = ap length seen in omega arith in
    let there : half
    ≡ get_or w.held.items at half = c.remove.ensures.value ∙ ap (λ l. get_or l at half) c.reserve.ensures.items in
    record {
      slot = c.in-Leave.slot;
      at = at;
      half = half;
      took = c.in-Some.ensures.next.0 ∙ ap (λ o. taken w.orders ++ o ∷ []) c.in-Leave.is;
      within = within;
      there = there;
      own = found_slot g.H.DataKind.slot_of_half
          (λ half. g.H.DataTraveller.slot_at (g.H.DataTraveller.name half)) laws.half_slots c.in-Leave.slot c.in-Leave.slot
          w.held.items c.deref.result.now at half there seen refl c.in-Some-find.ensures.found.1;
      held = c.remove.ensures.items ∙ ap (λ l. remove l at) c.reserve.ensures.items;
      gone = search rules;
      waiting = search rules;
      kept = search rules;
      cursor = search rules;
    }
