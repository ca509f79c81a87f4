use Rattle.std.proofs.Common.{◌≡◌, ◌++◌, length, take, drop, map, arith}
use Rattle.std.proofs.lemmas.Grind.{common_steps}
use Rattle.bearer_state.specs.Changes.{rebound_bearer}
use Rattle.bearer_state.proofs.BearerLemmas.{bearers_rebound}
use Rattle.bearer_state.proofs.bearers.Bearers.rebind.Goals as goal

pub invariant_of-self : goal.invariant_of-self
invariant_of-self c =
    let changed : take c.self.inside.items.len (c.rebind.new.bearers
    ++ drop (length c.rebind.new.bearers) c.self.inside.items.items)
    ≡ map (rebound_bearer c.args.asks.now) c.self.inside.items.items = grind (arith, common_steps) in
    rw changed (bearers_rebound c.args.asks.now c.self.inside.items.items c.self.invariant)
