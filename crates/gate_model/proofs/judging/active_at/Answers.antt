use Rattle.packet_steps.proofs.BearerLemmas.{found_there, found_ebi}
use Rattle.gate_model.proofs.judging.active_at.Goals as goal

pub returns-clause-ebi : goal.returns-clause-ebi
returns-clause-ebi c =
    found_ebi c.args.version.now c.bearer_at.result c.bearer_at.ensures.valid
    (found_there c.args.version.now.bearers c.args.index c.bearer_at.result c.bearer_at.ensures.value)
