use Rattle.std.proofs.Common.{◌≡◌, ◌++◌, length, take, drop, map, arith}
use Rattle.std.proofs.lemmas.Grind.{common_steps}
use Rattle.bearer_state.specs.Changes.{unbound}
use Rattle.bearer_state.proofs.BearerLemmas.{bearers_unbound}
use Rattle.bearer_state.proofs.bearers.Bearers.unbind.Goals as goal

pub invariant_of-self : goal.invariant_of-self
invariant_of-self c =
    let changed : take c.self.inside.items.len (c.unbind.new.bearers
    ++ drop (length c.unbind.new.bearers) c.self.inside.items.items) ≡ map unbound c.self.inside.items.items =
    grind (arith, common_steps) in
    rw changed (bearers_unbound c.self.inside.items.items c.self.invariant)
