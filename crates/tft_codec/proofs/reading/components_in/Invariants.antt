use Rattle.std.proofs.Common.{length}
use Rattle.tft_codec.specs.Reading.{components_of}
use Rattle.tft_codec.proofs.Loops.{StillReads}
use Rattle.tft_codec.proofs.reading.components_in.Given as goal

abbrev pub invariant-loop-kind : goal.invariant-loop-kind
invariant-loop-kind l = StillReads l.items.items l.rest (components_of l.contents)

abbrev pub decreases-loop-kind : goal.decreases-loop-kind
decreases-loop-kind l = length l.rest
