use Rattle.trace_lines.proofs.ReadLemmas.{means_by, numbered_by, in_order_by, as_long_by, only_by, refused_by, fault_by}
use Rattle.trace_lines.proofs.reading.read_line.Goals as goal

pub returns-clause-means : goal.returns-clause-means
returns-clause-means c = means_by _ c.args.least c.args.number c.args.text.now c.read_whole.ensures.line

pub returns-clause-numbered : goal.returns-clause-numbered
returns-clause-numbered c = numbered_by _ c.args.least c.args.number c.args.text.now c.read_whole.ensures.line

pub returns-clause-in_order : goal.returns-clause-in_order
returns-clause-in_order c = in_order_by _ c.args.least c.args.number c.args.text.now c.read_whole.ensures.line

pub returns-clause-as_long : goal.returns-clause-as_long
returns-clause-as_long c = as_long_by _ c.args.least c.args.number c.args.text.now c.read_whole.ensures.line

pub returns-clause-only : goal.returns-clause-only
returns-clause-only c =
    only_by _ c.args.least c.args.number c.args.text.now c.read_whole.ensures.line c.read_whole.ensures.refusal

pub returns-clause-refused : goal.returns-clause-refused
returns-clause-refused c = refused_by _ c.args.least c.args.number c.args.text.now c.read_whole.ensures.refusal

pub returns-clause-fault : goal.returns-clause-fault
returns-clause-fault c =
    fault_by _ c.args.least c.args.number c.args.text.now c.read_whole.ensures.line c.read_whole.ensures.refusal
