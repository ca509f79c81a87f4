use Rattle.pepc.proofs.ImportReports.{imports_are}
use Rattle.pepc.proofs.import.import.Goals as goal

pub returns-clause-imports : goal.returns-clause-imports
returns-clause-imports g c = rw c.status_of.ensures.status (imports_are c.import.result _ _ _ _ _ c.import.ensures.runs)
