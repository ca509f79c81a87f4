use Rattle.std.proofs.Common.{rules, ℕ, not}
use Rattle.std.proofs.lemmas.Fn.{filter_same}
use Rattle.migration.specs.Places.{place_at, is_placed_at}
use Rattle.front_core.proofs.both.settle.Goals as goal

pub returns-clause-kept : goal.returns-clause-kept
returns-clause-kept g c = filter_same _ (λ (slot : ℕ). not (is_placed_at (place_at c.args.controls.now.places.items slot)))
    _ (λ slot b f called. search rules) _ _ c.retain.ensures.filtered
