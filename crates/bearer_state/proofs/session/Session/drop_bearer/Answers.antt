use Rattle.bearer_state.proofs.SessionLemmas.{dropped_fits}
use Rattle.bearer_state.proofs.session.Session.drop_bearer.Goals as goal

pub invariant_of-self : goal.invariant_of-self
invariant_of-self c = rw c.remove_dedicated.ensures (dropped_fits _ c.args.ebi c.self.invariant)
