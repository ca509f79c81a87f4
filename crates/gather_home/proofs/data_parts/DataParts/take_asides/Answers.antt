use Rattle.std.proofs.Common.{refl}
use Rattle.gather_home.specs.DataPlaced.{slices_served}
use Rattle.gather_home.proofs.DataEvens.{even_asides}
use Rattle.gather_home.proofs.DataLaid.{asides_all}
use Rattle.gather_home.proofs.data_parts.DataParts.take_asides.Goals as goal

pub invariant_of-self : goal.invariant_of-self
invariant_of-self g c = record {
  laid = asides_all g.H.DataTraveller.name g.H.DataTraveller.slot_at g.H.DataTraveller.item_slot g.H.DataTraveller.handled _ _ _ _ _ _ _ _ _ c.requires.0
      (record { item = refl; left = refl; waiting = refl }) refl refl c.take_asides.ensures.halves c.args.self.now.laid;
  slots = c.args.self.now.slots;
  ends_of = c.args.self.now.ends_of;
  even = even_asides g.H.DataTraveller.places (slices_served c.args.self.now.stopped.value.items) _ _ _ _ _ _ _ _
      (record { item = refl; left = refl; waiting = refl }) refl c.take_asides.ensures.halves c.args.self.now.even;
  left = c.args.self.now.left;
}
