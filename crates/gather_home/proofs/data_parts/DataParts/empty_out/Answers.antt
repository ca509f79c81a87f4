use Rattle.gather_home.specs.DataPlaced.{slices_served}
use Rattle.gather_home.proofs.DataEvens.{even_emptied}
use Rattle.gather_home.proofs.DataLaid.{emptied_all}
use Rattle.gather_home.proofs.data_parts.DataParts.empty_out.Goals as goal

pub invariant_of-self : goal.invariant_of-self
invariant_of-self g c = record {
  laid = emptied_all g.H.DataTraveller.name g.H.DataTraveller.slot_at g.H.DataTraveller.item_slot g.H.DataTraveller.handled _ _ _ _ _ _ _ _
      c.empty_out.ensures.keeps
      c.args.self.now.laid;
  slots = c.args.self.now.slots;
  ends_of = c.args.self.now.ends_of;
  even = even_emptied g.H.DataTraveller.places (slices_served c.args.self.now.stopped.value.items) _ _ g.H.DataTraveller.item_slot _ _ _ _ _
      c.empty_out.ensures.keeps c.args.self.now.even;
  left = c.args.self.now.left;
}
