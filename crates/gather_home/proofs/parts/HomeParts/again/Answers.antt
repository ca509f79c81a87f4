use Rattle.std.proofs.Common.{rules}
use Rattle.gather_home.proofs.BySlots.{each_at_slot}
use Rattle.gather_home.proofs.parts.HomeParts.again.Goals as goal

pub returns-in-Ok-clause-each : goal.returns-in-Ok-clause-each
returns-in-Ok-clause-each g c =
    each_at_slot g.H.Traveller.name g.H.Traveller.slot_of _ _ (search rules) (search rules)
