use Rattle.std.proofs.Common.{length, ap, arith}
use Rattle.text_fields.proofs.head.Head.put_eight.Goals as goal

pub returns-clause-len : goal.returns-clause-len
returns-clause-len c = omega (arith, c.eight_before-self-inside.ensures.len, ap length c.self.view_is)
