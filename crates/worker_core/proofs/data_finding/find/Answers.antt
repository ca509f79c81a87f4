use Rattle.worker_core.proofs.Seeks.{if_found, if_none}
use Rattle.worker_core.proofs.data_finding.find.Goals as goal

pub returns-in-None-clause-none : goal.returns-in-None-clause-none
returns-in-None-clause-none g c = if_none g.H.DataKind.slot_of_half c.args.slot c.args.held.now c.first.result
    c.first.ensures

pub returns-in-None-clause-found : goal.returns-in-None-clause-found
returns-in-None-clause-found g c = if_found g.H.DataKind.slot_of_half c.args.slot c.args.held.now c.first.result
    c.first.ensures
