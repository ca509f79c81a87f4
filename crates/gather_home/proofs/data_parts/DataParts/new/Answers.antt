use Rattle.std.proofs.Common.{rules, ◌≡◌, refl, sym, subst}
use Rattle.std.specs.Prelude.{None}
use Rattle.migration.specs.DataPlaces.{names_of}
use Rattle.migration.specs.DataSides.{BySlot}
use Rattle.gather_home.specs.DataPlaced.{AreLeft, slices_served}
use Rattle.gather_home.proofs.DataEvens.{even_begins, left_all}
use Rattle.gather_home.proofs.DataLaid.{begins_all}
use Rattle.gather_home.proofs.data_parts.DataParts.new.Goals as goal

pub invariant_of-result : goal.invariant_of-result
invariant_of-result g c =
    let side = c.args.side in
    let same : c.of-admitted.result.value.items ≡ c.args.side.places.items = search rules in
    let stopped : c.of-stopped.result.value.items ≡ c.args.ends.items = search rules in
    let laws = g.met.H.DataTraveller g.world.𝓛 g.world.𝓜 g.world.𝓡 ((λ s x. x), (λ x. x), (λ x. x), λ x. x) in
    record {
      laid = begins_all g.H.DataTraveller.name g.H.DataTraveller.slot_at g.H.DataTraveller.item_slot g.H.DataTraveller.handled
          c.of-admitted.result.value.items
          side.places.items side.aside.items
          (record {
            found = c.new.result;
            lefts = c.new-2.result;
            item = None;
            left = c.new-3.result;
            held =
                c.new-4.result;
            waiting = None;
          })
          side.desks.items c.new-5.result.items same c.new-5.ensures.items
          (record {
            found = c.new.ensures.items;
            lefts = c.new-2.ensures.items;
            item = refl;
            left = c.new-3.ensures.items;
            held = c.new-4.ensures.items;
            waiting = refl;
          }) side.known side.balanced;
      slots = subst (λ l. BySlot g.H.DataTraveller.slot_at (names_of g.H.DataTraveller.name l)) (sym same) side.slots;
      ends_of = c.requires;
      even = even_begins g.H.DataTraveller.places (slices_served c.of-stopped.result.value.items) g.H.DataTraveller.handled
          side.places.items side.aside.items
          (record {
            found = c.new.result;
            lefts = c.new-2.result;
            item = None;
            left = c.new-3.result;
            held = c.new-4.result;
            waiting = None;
          }) side.desks.items c.new-5.result.items c.new-5.ensures.items
          (record {
            found = c.new.ensures.items;
            lefts = c.new-2.ensures.items;
            item = refl;
            left = c.new-3.ensures.items;
            held = c.new-4.ensures.items;
            waiting = refl;
          }) laws.each_placed side.weighed;
      left = subst (λ l. AreLeft (slices_served l) (slices_served c.args.ends.items)) (sym stopped)
          (left_all c.args.ends.items);
    }
