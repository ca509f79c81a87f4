use Rattle.epoch_schedule.proofs.Counting.{Counted}
use Rattle.epoch_schedule.proofs.planning.count_packets.Given as goal

abbrev pub invariant-loop-ask : goal.invariant-loop-ask
invariant-loop-ask l = Counted l.asks l.ask-index l.counts.items
