use Rattle.std.proofs.Common.{sym}
use Rattle.worker_core.proofs.DataKnowing.{law_of}
use Rattle.worker_core.specs.Desks.{sent_at}
use Rattle.migration.proofs.data_steps.offer.Goals as goal

pub offer-requires-clause-law : goal.offer-requires-clause-law
offer-requires-clause-law g c = λ κs within.
    let laws = g.met.H.DataTraveller g.world.𝓛 g.world.𝓜 g.world.𝓡 ((λ s x. x), (λ x. x), (λ x. x), λ x. x) in
    let slots : g.row.H.Denot → _ = λ half. g.H.DataTraveller.slot_at (g.H.DataTraveller.name half) in
    law_of slots g.H.DataKind.slot_of_half g.H.DataTraveller.item_slot g.H.DataKind.slot_of_item
    (λ x. sym (laws.half_slots x)) (λ x. sym (laws.item_slots x))
    (sent_at c.args.desks.now.items c.args.slice) c.args.order c.requires.law
