use Rattle.split_record.proofs.Stages.{at_halfway}
use Rattle.split_record.proofs.parts.closed_behind.Goals as goal

pub returns-in-Err-clause-err : goal.returns-in-Err-clause-err
returns-in-Err-clause-err g c = at_halfway _ _ c.in-Err.ensures.err
