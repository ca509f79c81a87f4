use Rattle.lawful_run.proofs.InRange.{octets_in_range, told_in_range}
use Rattle.lawful_run.proofs.laws.told_lines_are_in_range.Goals as goal

pub returns-clause-lines : goal.returns-clause-lines
returns-clause-lines c = told_in_range

pub returns-clause-octets : goal.returns-clause-octets
returns-clause-octets c = octets_in_range
