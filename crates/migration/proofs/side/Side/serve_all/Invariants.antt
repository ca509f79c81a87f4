use Rattle.std.proofs.Common.{◌≡◌, ◌+◌, ◌⊎◌, ℕ, vec_len}
use Rattle.worker_core.specs.Desks.{homes_of, fulls_at}
use Rattle.worker_core.specs.Counts.{Rises}
use Rattle.migration.specs.Words.{roll_of}
use Rattle.migration.proofs.Servings.{Serving}
use Rattle.migration.proofs.Pumps.{Served}
use Rattle.migration.specs.Passes.{Passes}
use Rattle.migration.proofs.side.Side.serve_all.Given as goal

abbrev pub invariant-loop : goal.invariant-loop
invariant-loop g l =
    (roll_of g.H.Traveller.name l.self ≡ roll_of g.H.Traveller.name l.fn.self)
    × (homes_of l.self.desks.items ≡ homes_of l.fn.self.desks.items)
    × (l.self.aside.items ≡ l.fn.self.aside.items)
    × (vec_len l.self.serving + l.counter ≡ vec_len l.fn.self.serving)
    × Serving l.self.serving.items l.self.places.items l.fn.self.desks.items l.self.desks.items
    × ((slice : ℕ) → (fulls_at l.self.desks.items slice ≡ fulls_at l.fn.self.desks.items slice)
    ⊎ Rises (fulls_at l.fn.self.desks.items slice) (fulls_at l.self.desks.items slice))
    × Passes (λ half. g.H.Traveller.slot_of (g.H.Traveller.name half)) g.H.Traveller.hop_of l.fn.self.places.items
    l.self.places.items l.fn.self.aside.items l.self.aside.items
    l.fn.self.desks.items l.self.desks.items
    × Served g.H.Traveller.name g.H.Traveller.hop_of l.fn.self.serving.items l.self.serving.items
    l.fn.self.places.items l.self.places.items l.fn.self.desks.items l.self.desks.items
