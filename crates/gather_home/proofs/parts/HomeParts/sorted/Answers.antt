use Rattle.std.proofs.Common.{◌∙◌}
use Rattle.gather_home.proofs.BySlots.{by_slot}
use Rattle.gather_home.proofs.parts.HomeParts.sorted.Goals as goal

pub returns : goal.returns
returns g c =
    by_slot g.row.H-Name.coded g.H.Traveller.name g.H.Traveller.slot_of _ _ c.args.self.slots c.sort.ensures.sorted
    (λ h. c.sort.ensures.same h ∙ c.requires h)
