use Rattle.std.proofs.Common.{List, ap, subst}
use Rattle.std.specs.Prelude.{ℕ}
use Rattle.gather_home.specs.DataHomecomings.{AtSlots, ComeToAccepted}
use Rattle.gather_home.specs.DataPlaced.{AllPlaced}
use Rattle.gather_home.proofs.data_parts.DataParts.again.Goals as goal

pub returns-in-Ok-clause-each : goal.returns-in-Ok-clause-each
returns-in-Ok-clause-each g c =
    subst (λ l. AtSlots g.H.DataTraveller.name g.H.DataTraveller.slot_at l c.sorted.result.items)
    (ap (λ (o : List _ × List ℕ). o.0) c.collect.ensures.same) c.sorted.ensures.each

pub returns-in-Ok-clause-items : goal.returns-in-Ok-clause-items
returns-in-Ok-clause-items g c =
    subst (λ l. ComeToAccepted g.H.DataTraveller.name g.H.DataTraveller.slot_at g.H.DataTraveller.handled l c.sorted.result.items)
    (ap (λ (o : List _ × List ℕ). o.0) c.collect.ensures.same) c.sorted.ensures.items

pub returns-in-Ok-clause-placed : goal.returns-in-Ok-clause-placed
returns-in-Ok-clause-placed g c =
    subst (λ (l : List ℕ). AllPlaced g.H.DataTraveller.places l c.sorted.result.items)
    (ap (λ (o : List _ × List ℕ). o.1) c.collect.ensures.same) c.sorted.ensures.placed
