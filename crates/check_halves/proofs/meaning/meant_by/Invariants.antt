use Rattle.std.proofs.Common.{◌≡◌, length, vec_len}
use Rattle.check_halves.proofs.meaning.meant_by.Given as goal

abbrev pub invariant-loop-line : goal.invariant-loop-line
invariant-loop-line l = vec_len l.subscribers ≡ length l.book
