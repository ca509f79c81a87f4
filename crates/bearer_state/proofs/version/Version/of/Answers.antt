use Rattle.bearer_state.proofs.VersionLemmas.{version_fits}
use Rattle.bearer_state.proofs.version.Version.of.Goals as goal

pub invariant_of-result : goal.invariant_of-result
invariant_of-result c =
    rw (c.in_ok-actives_of.ensures, c.in_ok-rows_of.ensures, c.as_slice-bearers.ensures.value)
    (version_fits _ c.args.number c.session.invariant c.as_slice-bearers.ensures.valid c.requires)
