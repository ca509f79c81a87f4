use Rattle.std.proofs.Common.{rules}
use Rattle.epoch_schedule.proofs.Counting.{counted_own, counted_others}
use Rattle.epoch_schedule.proofs.planning.count_packet.Goals as goal

pub returns-clause-own : goal.returns-clause-own
returns-clause-own c =
    counted_own c.args.counts.now.items c.reach.new.index.items c.args.slot _ c.reach.ensures.same _
    c.in_ok-reach.ensures.within c.index-count.ensures (search rules)

pub returns-clause-others : goal.returns-clause-others
returns-clause-others c =
    counted_others c.args.counts.now.items c.reach.new.index.items c.args.slot _ c.reach.ensures.same
