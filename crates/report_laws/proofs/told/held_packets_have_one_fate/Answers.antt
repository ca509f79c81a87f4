use Rattle.report_laws.proofs.HeldTold.{at_most_one, fates_follow}
use Rattle.report_laws.proofs.told.held_packets_have_one_fate.Goals as goal

pub returns-clause-one : goal.returns-clause-one
returns-clause-one c = at_most_one

pub returns-clause-follows : goal.returns-clause-follows
returns-clause-follows c = fates_follow
