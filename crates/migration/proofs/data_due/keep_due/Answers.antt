use Rattle.std.proofs.Common.{rules, ℕ}
use Rattle.std.proofs.lemmas.Fn.{filter_same}
use Rattle.migration.specs.DataPlaces.{place_at, is_due}
use Rattle.migration.proofs.data_due.keep_due.Goals as goal

pub returns-clause-kept : goal.returns-clause-kept
returns-clause-kept g c = filter_same _ (λ (slot : ℕ). is_due (place_at c.args.places.now slot)) _
    (λ slot b f called. search rules) _ _ c.retain.ensures.filtered
