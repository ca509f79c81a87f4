use Rattle.gather_home.specs.DataPlaced.{slices_served}
use Rattle.gather_home.proofs.DataEvens.{even_place}
use Rattle.gather_home.proofs.DataLaid.{place_all}
use Rattle.gather_home.proofs.data_parts.DataParts.take_place.Goals as goal

pub invariant_of-self : goal.invariant_of-self
invariant_of-self g c =
    let emptied = c.requires.closed.2 in
    record {
      laid = place_all g.H.DataTraveller.name g.H.DataTraveller.slot_at g.H.DataTraveller.item_slot g.H.DataTraveller.handled _ _ _ _ _ _ _ _ _
          c.requires.closed.0
          c.requires.closed.2 (record {
            item = emptied.item;
            left = emptied.left;
            held = emptied.held;
            waiting =
                emptied.waiting;
          })
          c.take_place.ensures.halves c.take_place.ensures.items c.args.self.now.laid;
      slots = c.args.self.now.slots;
      ends_of = c.args.self.now.ends_of;
      even = even_place g.H.DataTraveller.places (slices_served c.args.self.now.stopped.value.items) _ _ _ _ _ _ _ _
          c.requires.closed.2 (record {
            item = emptied.item;
            left = emptied.left;
            held = emptied.held;
            waiting = emptied.waiting;
          }) c.take_place.ensures.halves c.args.self.now.even;
      left = c.args.self.now.left;
    }
