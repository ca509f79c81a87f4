use Rattle.balance_plan.specs.Writing.{AreCounts}
use Rattle.balance_plan.proofs.packets.ToldPackets.counts_between.Given as goal

abbrev pub invariant-loop-number : goal.invariant-loop-number
invariant-loop-number l = AreCounts l.counts.items l.slots l.since l.number l.self.entries.now
