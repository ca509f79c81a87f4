use Rattle.std.proofs.Common.{length}
use Rattle.report_lines.proofs.AddLemmas.{SoFar}
use Rattle.report_lines.proofs.counts.EntryCounts.add.Given as goal

abbrev pub invariant-loop-rest : goal.invariant-loop-rest
invariant-loop-rest l = SoFar l.fn.self l.self l.text l.left

abbrev pub decreases-loop-rest : goal.decreases-loop-rest
decreases-loop-rest l = length l.left
