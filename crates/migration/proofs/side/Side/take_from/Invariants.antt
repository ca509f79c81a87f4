use Rattle.std.proofs.Common.{◌≡◌, vec_len}
use Rattle.migration.specs.Words.{roll_of}
use Rattle.worker_core.proofs.Homes.{Taking}
use Rattle.migration.specs.Passes.{Passes}
use Rattle.migration.specs.Pumps.{TakesHome, NoneWaits}
use Rattle.migration.proofs.side.Side.take_from.Given as goal

abbrev pub invariant-loop : goal.invariant-loop
invariant-loop g l =
    (roll_of g.H.Traveller.name l.self ≡ roll_of g.H.Traveller.name l.fn.self)
    × (vec_len l.self.desks ≡ vec_len l.fn.self.desks)
    × Taking l.slice l.counter l.fn.self.aside.items l.self.aside.items l.fn.self.desks.items l.self.desks.items
    × Passes (λ half. g.H.Traveller.slot_of (g.H.Traveller.name half)) g.H.Traveller.hop_of l.fn.self.places.items
    l.self.places.items l.fn.self.aside.items l.self.aside.items
    l.fn.self.desks.items l.self.desks.items
    × TakesHome l.fn.self.places.items l.self.places.items l.fn.self.desks.items l.self.desks.items
    × NoneWaits l.fn.self.waiting.items l.self.waiting.items l.fn.self.places.items l.self.places.items
