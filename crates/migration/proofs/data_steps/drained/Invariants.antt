use Rattle.std.proofs.Common.{◌≡◌, vec_len}
use Rattle.migration.proofs.DataTables.{Emptying}
use Rattle.migration.proofs.data_steps.drained.Given as goal

abbrev pub invariant-loop : goal.invariant-loop
invariant-loop g l =
    Emptying (λ half. g.H.DataTraveller.slot_at (g.H.DataTraveller.name half)) g.H.DataTraveller.item_slot g.H.DataTraveller.handled l.slot l.at
    l.counter l.fn.queue.items l.queue.items
    l.fn.desks.items l.desks.items
    × (vec_len l.desks ≡ vec_len l.fn.desks)
