use Rattle.std.proofs.Common.{rules}
use Rattle.trace_lines.proofs.kinds.read_order.Goals as goal

pub returns-then-eq-clause-kind : goal.returns-then-eq-clause-kind
returns-then-eq-clause-kind c = search (rules, c.read_attach.ensures.kind c.args.octets.now)
