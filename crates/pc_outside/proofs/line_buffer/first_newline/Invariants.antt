use Rattle.std.proofs.Common.{◌*◌}
use Rattle.memchr.specs.Find.{Nowhere, Passes, is_byte}
use Rattle.pc_outside.proofs.line_buffer.first_newline.Given as goal

abbrev pub invariant-loop-round : goal.invariant-loop-round
invariant-loop-round l = Nowhere (Passes (is_byte 10) l.octets) 0 (64 * l.round)
