use Rattle.std.proofs.Common.{rules, ◌+◌, ℕ, subst, sym}
use Rattle.std.specs.Global.{Vec}
use Rattle.epoch_schedule.specs.declared.ask.LineAsk.TheVariants as ask
use Rattle.epoch_schedule.proofs.Counting.{Counted, passed, counted}
use Rattle.epoch_schedule.proofs.planning.count_packets.Goals as goal
use Rattle.epoch_schedule.proofs.planning.count_packets.Goals.{in-Packet+in_ok-count_packet, in_default}

pub loop-ask-preserved : goal.loop-ask-preserved
loop-ask-preserved c =
    let asks = c.args.asks.now in
    let i = c.loop-ask.ask-index in
    elim c.match-ask.branch [
      | in-Packet+in_ok-count_packet w ↦
          subst (λ (v : Vec ℕ). Counted asks (i + 1) v.items) (sym w.counts-is)
          (counted asks i ask.Nothing c.loop-ask-test.true c.loop-ask.counts.items c.loop-ask.invariant
          w.in-Packet.slot w.count_packet.new.counts.items (search rules) w.in_ok-count_packet.ensures.own
          w.in_ok-count_packet.ensures.others w.in_ok-count_packet.ensures.least)
      | in_default w ↦
          subst (λ (v : Vec ℕ). Counted asks (i + 1) v.items) (sym w.counts-is)
          (passed asks i ask.Nothing c.loop-ask-test.true c.loop-ask.counts.items c.loop-ask.invariant)
    ]
