use Rattle.std.proofs.Common.{ap, ◌∙◌}
use Rattle.demux.specs.declared.decision.Decision.TheVariants.{Note}
use Rattle.demux.specs.Resolved.{resolved}
use Rattle.demux.proofs.TunnelLemmas.{packet_read, packet_refused}
use Rattle.demux.proofs.tunnel.decide_packet.Goals as goal

pub returns-in-Ok : goal.returns-in-Ok
returns-in-Ok c = λ slices.
    rw (packet_read c.args.moment c.args.octets.now c.in-Ok.ensures.faultless)
    (rw c.in-Ok.ensures.lent at (c.decide_delivered.ensures slices))

pub returns-in_ok-words-in-Err : goal.returns-in_ok-words-in-Err
unfolding resolved
returns-in_ok-words-in-Err c = λ slices.
    rw (packet_refused c.args.moment c.args.octets.now c.in-Err.bad c.in-Err.ensures.refused)
    (ap Note (c.in_ok-words-in-Err.ensures ∙ c.packet_note.ensures))
