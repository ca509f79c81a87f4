use Rattle.audit_core.proofs.BrokenLemmas.{breaks_are_broken}
use Rattle.audit_core.proofs.place_laws.breaks_are_broken.Goals as goal

pub returns : goal.returns
returns c = breaks_are_broken
