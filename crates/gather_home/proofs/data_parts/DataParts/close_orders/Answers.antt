use Rattle.std.proofs.Common.{rules, ◌≡◌, ◌∙◌, [], ◌∷◌, ◌++◌, map, refl, sym, ap}
use Rattle.std.specs.Prelude.{reverse}
use Rattle.std.specs.List.{sum_by}
use Rattle.std.specs.Option.{option_to_list, is_some}
use Rattle.std.proofs.lemmas.List.{reverse-reverse}
use base.Stored.{coded_list}
use Rattle.lane_core.specs.Ends.{receiver_lane, sender_lane, sent, taken}
use Rattle.worker_core.specs.Names.{weight}
use Rattle.worker_core.specs.DataPlaces.{brought}
use Rattle.worker_core.specs.DataOrders.{halves_in, now_of, gone_of}
use Rattle.worker_core.specs.DataWorkers.{end_lanes}
use Rattle.worker_core.specs.Workers.{desk_lanes}
use Rattle.gather_home.proofs.Wholes.{lasts_same}
use Rattle.gather_home.specs.DataPlaced.{slices_served}
use Rattle.gather_home.proofs.DataEvens.{end_below, even_again, even_closes, left_fewer, left_same, put_back, same_desks}
use Rattle.gather_home.proofs.DataLaid.{closes_all, lawful_by}
use Rattle.gather_home.proofs.data_parts.DataParts.close_orders.Goals as goal

pub invariant_of-self : goal.invariant_of-self
invariant_of-self g c =
    let parts = c.args.self.now in
    let laws = g.met.H.DataTraveller g.world.𝓛 g.world.𝓜 g.world.𝓡 ((λ s x. x), (λ x. x), (λ x. x), λ x. x) in
    let last : c.args.self.now.desks.items ≡ c.pop.new.self.items ++ c.in-Some.desk ∷ [] = search rules in
    let final : c.args.self.now.ends.items ≡ c.pop-2.new.self.items ++ c.in-Some-pop.end ∷ [] = search rules in
    let turned : reverse c.reversed.result.items ≡ c.in-Ok.left.items = ap reverse c.reversed.ensures
    ∙ reverse-reverse c.in-Ok.left.items in
    record {
      laid = closes_all g.H.DataTraveller.name g.H.DataTraveller.slot_at g.H.DataTraveller.item_slot g.H.DataTraveller.handled
          (coded_list g.row.H-Item.coded)
          parts.admitted.value.items parts.places.items parts.aside.items parts.hand
          (record {
            found = c.args.self.now.hand.found;
            lefts = c.args.self.now.hand.lefts;
            item = c.in-Some-pop.end.kept;
            left = c.reversed.result;
            held = c.in-Some-pop.end.held;
            waiting = c.in-Some-pop.end.waiting;
          }) parts.opened parts.desks.items c.pop.new.self.items c.in-Some.desk parts.homes.items
          (taken c.in-Some-pop.end.orders) c.in-Ok.left.items (sent c.in-Some-pop.end.home)
          c.requires.empty.1 last c.requires.empty.0 refl refl c.in-Ok.ensures.rest turned
          (lawful_by g.H.DataKind.slot_of_half (λ half. g.H.DataTraveller.slot_at (g.H.DataTraveller.name half))
          g.H.DataKind.slot_of_item g.H.DataTraveller.item_slot
          laws.half_slots laws.item_slots (sent c.in-Some.desk.orders) c.in-Ok.ensures.lawful)
          c.in-Some-pop.end.names c.in-Some-pop.end.holds c.in-Some-pop.end.sends c.in-Some-pop.end.stands parts.laid;
      slots = parts.slots;
      ends_of = (lasts_same end_lanes desk_lanes c.args.self.now.ends.items c.pop-2.new.self.items c.in-Some-pop.end
          c.args.self.now.desks.items c.pop.new.self.items c.in-Some.desk final last c.args.self.now.ends_of).0;
      even = even_closes g.H.DataTraveller.places (slices_served parts.stopped.value.items) g.H.DataTraveller.name c.in-Some-pop.end.place
          parts.places.items parts.aside.items parts.hand
          (record {
            found = c.args.self.now.hand.found;
            lefts = c.args.self.now.hand.lefts;
            item = c.in-Some-pop.end.kept;
            left = c.reversed.result;
            held = c.in-Some-pop.end.held;
            waiting = c.in-Some-pop.end.waiting;
          }) parts.opened parts.desks.items c.pop.new.self.items c.in-Some.desk parts.homes.items
          (taken c.in-Some-pop.end.orders) c.in-Ok.left.items (sent c.in-Some-pop.end.home)
          c.requires.empty.1 last c.requires.empty.0 refl refl c.in-Ok.ensures.rest turned
          (λ n below. end_below n (slices_served parts.stopped.value.items) parts.ends.items c.pop-2.new.self.items
          c.in-Some-pop.end final parts.left below) c.in-Some-pop.end.here parts.even;
      left = left_fewer (slices_served parts.stopped.value.items) parts.ends.items c.pop-2.new.self.items
          c.in-Some-pop.end final parts.left;
    }

pub invariant_of-self-in-Err-clause-ends_of : goal.invariant_of-self-in-Err-clause-ends_of
invariant_of-self-in-Err-clause-ends_of g c =
    let parts = c.args.self.now in
    let last : parts.desks.items ≡ c.pop.new.self.items ++ c.in-Some.desk ∷ [] = search rules in
    let final : parts.ends.items ≡ c.pop-2.new.self.items ++ c.in-Some-pop.end ∷ [] = search rules in
    let desks = same_desks parts.desks.items c.pop.new.self.items c.push_reserved.new.self.items c.in-Some.desk _ last
    c.push_reserved.ensures.items c.in-Err.ensures.kept.0 refl in
    put_back end_lanes parts.ends.items c.pop-2.new.self.items c.push_reserved-in-Err.new.self.items c.in-Some-pop.end _
    final c.push_reserved-in-Err.ensures.items
    (ap (λ r. (receiver_lane r, sender_lane c.in-Some-pop.end.home)) c.in-Err.ensures.kept.1)
    ∙ parts.ends_of ∙ ap (map desk_lanes) (sym desks)

pub invariant_of-self-in-Err-clause-even : goal.invariant_of-self-in-Err-clause-even
invariant_of-self-in-Err-clause-even g c =
    let parts = c.args.self.now in
    let last : parts.desks.items ≡ c.pop.new.self.items ++ c.in-Some.desk ∷ [] = search rules in
    even_again g.H.DataTraveller.places (slices_served parts.stopped.value.items) parts.places.items parts.aside.items parts.hand
    parts.opened parts.desks.items c.push_reserved.new.self.items parts.homes.items
    (same_desks parts.desks.items c.pop.new.self.items c.push_reserved.new.self.items c.in-Some.desk _ last
    c.push_reserved.ensures.items c.in-Err.ensures.kept.0 refl) parts.even

pub invariant_of-self-in-Err-clause-left : goal.invariant_of-self-in-Err-clause-left
invariant_of-self-in-Err-clause-left g c =
    let parts = c.args.self.now in
    let final : parts.ends.items ≡ c.pop-2.new.self.items ++ c.in-Some-pop.end ∷ [] = search rules in
    left_same (slices_served parts.stopped.value.items) parts.ends.items c.push_reserved-in-Err.new.self.items
    c.pop-2.new.self.items c.in-Some-pop.end _ final c.push_reserved-in-Err.ensures.items refl parts.left

pub invariant_of-push_reserved : goal.invariant_of-push_reserved
invariant_of-push_reserved g c =
    let was = c.in-Some-pop.end in
    let same : taken c.in-Err.ends.rx ≡ taken c.in-Some-pop.end.orders = ap taken c.in-Err.ensures.kept.1 in
    record {
      names = λ h. ap (λ l. weight g.H.DataTraveller.name h (halves_in l)) same ∙ was.names h;
      here = λ h. ap (λ l. weight (brought g.H.DataTraveller.name g.H.DataTraveller.places was.place) h (halves_in l)) same ∙ was.here h;
      holds = λ s h. was.holds s h
          ∙ ap (λ l. sum_by h (option_to_list (now_of (λ half. g.H.DataTraveller.slot_at (g.H.DataTraveller.name half))
          g.H.DataTraveller.item_slot g.H.DataTraveller.handled s l))) (sym same);
      sends = λ s f. was.sends s f
          ∙ ap (λ l. f (gone_of (λ half. g.H.DataTraveller.slot_at (g.H.DataTraveller.name half)) g.H.DataTraveller.item_slot g.H.DataTraveller.handled s
          l)) (sym same);
      stands = λ x is. ap (λ l. is_some (now_of (λ half. g.H.DataTraveller.slot_at (g.H.DataTraveller.name half)) g.H.DataTraveller.item_slot
          g.H.DataTraveller.handled
          (g.H.DataTraveller.item_slot x) l)) same ∙ was.stands x is;
    }
