use Rattle.bearer_state.proofs.SessionLemmas.{denied_fits}
use Rattle.bearer_state.proofs.session.Session.deny.Goals as goal

pub invariant_of-self : goal.invariant_of-self
invariant_of-self c = rw c.remove_asked.ensures (denied_fits _ c.args.seq c.self.invariant)
