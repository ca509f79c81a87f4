use Rattle.std.proofs.Common.{◌≡◌, length}
use Rattle.gtpv2_msg.specs.Lookup.{contexts_of}
use Rattle.gtpv2_msg.proofs.walk.ContextsIterator.next.Given as goal

-- no element so far is a Context of instance 0
abbrev pub invariant-loop-ie : goal.invariant-loop-ie
invariant-loop-ie l = contexts_of l.self-inside.ies.now ≡ contexts_of l.initial.self-inside.ies.now

abbrev pub decreases-loop-ie : goal.decreases-loop-ie
decreases-loop-ie l = length l.self-inside.ies.now
