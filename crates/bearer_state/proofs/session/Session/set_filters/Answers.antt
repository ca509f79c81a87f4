use Rattle.bearer_state.proofs.SessionLemmas.{refiltered_fits}
use Rattle.bearer_state.proofs.session.Session.set_filters.Goals as goal

pub invariant_of-self : goal.invariant_of-self
invariant_of-self c = rw c.set_filters.ensures (refiltered_fits _ c.args.ebi c.args.filters c.self.invariant)
