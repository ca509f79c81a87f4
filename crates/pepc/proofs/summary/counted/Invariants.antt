use Rattle.std.proofs.Common.{length}
use Rattle.trace_maker.specs.Generated.{made}
use Rattle.pepc.specs.Counting.{Counting}
use Rattle.pepc.proofs.summary.counted.Given as goal

abbrev pub invariant-loop-text : goal.invariant-loop-text
invariant-loop-text l =
    Counting l.epochs.reporter l.epochs.size l.epochs.text l.counts (made l.seed l.subs l.lines) l.maker

abbrev pub decreases-loop-text : goal.decreases-loop-text
decreases-loop-text l = length l.maker
