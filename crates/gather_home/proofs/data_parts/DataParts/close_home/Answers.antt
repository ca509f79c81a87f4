use Rattle.std.proofs.Common.{refl}
use Rattle.gather_home.specs.DataPlaced.{slices_served}
use Rattle.gather_home.proofs.DataEvens.{even_home}
use Rattle.gather_home.proofs.DataLaid.{closed_home}
use Rattle.gather_home.proofs.data_parts.DataParts.close_home.Goals as goal

pub invariant_of-self : goal.invariant_of-self
invariant_of-self g c = record {
  laid = closed_home g.H.DataTraveller.name g.H.DataTraveller.slot_at g.H.DataTraveller.item_slot g.H.DataTraveller.handled _ _ _ _ _ _ _ _ _ c.requires
      (record { item = refl; left = refl; waiting = refl }) refl refl c.close_home.ensures.rest c.args.self.now.laid;
  slots = c.args.self.now.slots;
  ends_of = c.args.self.now.ends_of;
  even = even_home g.H.DataTraveller.places (slices_served c.args.self.now.stopped.value.items) _ _ _ _ _ _ _ _ c.requires
      (record { item = refl; left = refl; waiting = refl }) refl c.close_home.ensures.rest c.args.self.now.even;
  left = c.args.self.now.left;
}
