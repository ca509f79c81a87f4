use Rattle.report_lines.proofs.ReadLemmas.{found_by, ranges_by, only_by}
use Rattle.report_lines.proofs.reading.read.Goals as goal

pub returns-clause-found : goal.returns-clause-found
returns-clause-found c = found_by _ c.args.line.now c.read_entry.ensures

pub returns-clause-ranges : goal.returns-clause-ranges
returns-clause-ranges c = ranges_by _ c.args.line.now c.read_entry.ensures

pub returns-clause-only : goal.returns-clause-only
returns-clause-only c = only_by _ c.args.line.now c.read_entry.ensures
