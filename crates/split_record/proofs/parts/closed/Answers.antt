use Rattle.split_record.proofs.Stages.{at_open}
use Rattle.split_record.proofs.parts.closed.Goals as goal

pub closed-requires : goal.closed-requires
closed-requires g c = record { at = c.requires.at.opens c.in-Open.open c.in-Open.is }

pub closed_behind-requires-in-Halfway : goal.closed_behind-requires-in-Halfway
closed_behind-requires-in-Halfway g c = record { at = c.requires.at.halfway c.in-Halfway.halfway c.in-Halfway.is }

pub returns-in-Err-clause-err : goal.returns-in-Err-clause-err
returns-in-Err-clause-err g c = at_open _ _ c.in-Err.ensures.err

pub returns-in-Closing-clause-ok : goal.returns-in-Closing-clause-ok
returns-in-Closing-clause-ok g c = c.requires.at.closing c.in-Closing.closing c.in-Closing.is
