use Rattle.std.proofs.Common.{length}
use Rattle.record_codec.proofs.TextLemmas.{Written}
use Rattle.record_codec.proofs.saving.text_of.Given as goal

abbrev pub invariant-loop-left : goal.invariant-loop-left
invariant-loop-left l = Written l.octets l.left l.text

abbrev pub decreases-loop-left : goal.decreases-loop-left
decreases-loop-left l = length l.left
