use Rattle.bearer_state.proofs.SessionLemmas.{granted_fits}
use Rattle.bearer_state.proofs.session.Session.grant.Goals as goal

pub invariant_of-self : goal.invariant_of-self
invariant_of-self c = rw c.grant.ensures (granted_fits _ c.args.seq c.args.ebi c.args.enb c.self.invariant)
