use Rattle.gtpv2_ie.proofs.StandLemmas.{ies_of-Stand}
use Rattle.gtpv2_msg.proofs.ReadContexts.{read_is, read_fits}
use Rattle.gtpv2_msg.proofs.elements.read_context.Goals as goal

pub returns-clause-value : goal.returns-clause-value
returns-clause-value c =
    read_is c.args.octets.now c.deref.result.now c.in_ok-ies.ies.items c.in_ok-known_of.field-0.items
    c.in_ok-context.context (ies_of-Stand _ _ (rw c.deref.ensures.value c.in-Ok.ensures.found))
    c.in_ok-ies.ensures c.in_ok-known_of.ensures c.in_ok-context.ensures.value

pub returns-clause-valid : goal.returns-clause-valid
returns-clause-valid c = λ fits.
    c.in_ok-context.ensures.valid
    (read_fits c.args.octets.now c.in_ok-context.context (returns-clause-value c) fits)
