use Rattle.std.proofs.Common.{arith}
use Rattle.slot_execution.proofs.lending.lend_again.Goals as goal

pub returns-in-Down-clause-short : goal.returns-in-Down-clause-short
returns-in-Down-clause-short c = λ packet. omega (arith, packet.total, c.type_inv.octets 2, c.type_inv.octets 3)
