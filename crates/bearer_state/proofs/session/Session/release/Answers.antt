use Rattle.bearer_state.proofs.SessionLemmas.{released_fits}
use Rattle.bearer_state.proofs.session.Session.release.Goals as goal

pub invariant_of-self : goal.invariant_of-self
invariant_of-self c = rw c.unbind.ensures (released_fits _ c.self.invariant)
