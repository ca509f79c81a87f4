use Rattle.std.proofs.Common.{◌≡◌, ◌++◌, map, take}
use Rattle.packet_steps.specs.Change.{lacking_in}
use Rattle.packet_steps.proofs.MarkLemmas.{starting}
use Rattle.packet_steps.proofs.changing.push_begun.Given as goal

-- the starts of the bearers that were seen
abbrev pub invariant-loop-bearer : goal.invariant-loop-bearer
invariant-loop-bearer l = l.postings.items ≡ l.initial.postings.items
    ++ map starting (lacking_in l.before (take l.bearer-index l.after))
