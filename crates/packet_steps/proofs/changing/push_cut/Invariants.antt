use Rattle.std.proofs.Common.{◌≡◌, ◌++◌, map, filter, take}
use Rattle.packet_steps.specs.Change.{shares_ambr, shared_with}
use Rattle.packet_steps.proofs.MarkLemmas.{cutting}
use Rattle.packet_steps.proofs.changing.push_cut.Given as goal

-- the pieces of the bearers that were seen
abbrev pub invariant-loop-bearer : goal.invariant-loop-bearer
invariant-loop-bearer l = l.postings.items ≡ l.initial.postings.items
    ++ map cutting (filter shares_ambr (shared_with l.after (take l.bearer-index l.before)))
