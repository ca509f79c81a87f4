use Rattle.std.proofs.Common.{refl}
use base.Stored.{coded_list}
use Rattle.gather_home.specs.DataPlaced.{slices_served}
use Rattle.gather_home.proofs.DataEvens.{even_brought}
use Rattle.gather_home.proofs.DataLaid.{home_all}
use Rattle.gather_home.proofs.data_parts.DataParts.bring_home.Goals as goal

pub invariant_of-self : goal.invariant_of-self
invariant_of-self g c =
    let emptied = c.requires.closed.2 in
    record {
      laid = home_all g.H.DataTraveller.name g.H.DataTraveller.slot_at g.H.DataTraveller.item_slot g.H.DataTraveller.handled _ _ _
          (coded_list g.row.H-Item.coded) _ _ _ _
          c.requires.closed.0 c.requires.empty.1 c.requires.closed.1 c.requires.closed.2 c.args.self.now.laid
          c.bring_home.result _ _
          (record { item = refl; left = refl; waiting = refl }) refl
          (record { item = emptied.item; left = emptied.left; held = emptied.held; waiting = emptied.waiting })
          c.bring_home.ensures.ok c.bring_home.ensures.err;
      slots = c.args.self.now.slots;
      ends_of = c.args.self.now.ends_of;
      even = even_brought g.H.DataTraveller.places (slices_served c.args.self.now.stopped.value.items) _ _
          (λ half. g.H.DataTraveller.slot_at (g.H.DataTraveller.name half)) c.bring_home.result _ _ _ _ _ _ c.requires.closed.2
          (record { item = emptied.item; left = emptied.left; held = emptied.held; waiting = emptied.waiting })
          c.bring_home.ensures.ok c.bring_home.ensures.err c.args.self.now.even;
      left = c.args.self.now.left;
    }
