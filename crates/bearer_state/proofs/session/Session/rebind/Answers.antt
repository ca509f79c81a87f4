use Rattle.bearer_state.proofs.SessionLemmas.{rebound_fits}
use Rattle.bearer_state.proofs.session.Session.rebind.Goals as goal

pub invariant_of-self : goal.invariant_of-self
invariant_of-self c = rw c.rebind.ensures (rebound_fits _ c.args.asks.now c.self.invariant)
