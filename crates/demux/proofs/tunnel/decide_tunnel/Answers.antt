use Rattle.std.proofs.Common.{ap, sym, ◌∙◌}
use Rattle.gtpu_codec.specs.declared.kind.GtpUKind.TheVariants as kind
use Rattle.demux.specs.declared.decision.Decision.TheVariants.{Note}
use Rattle.demux.specs.Resolved.{resolved}
use Rattle.demux.proofs.TunnelLemmas.{tunnel_read, tunnel_noted, tunnel_refused}
use Rattle.demux.proofs.tunnel.decide_tunnel.Goals as goal

pub returns-in_ok-echo_note-in-EchoRequest : goal.returns-in_ok-echo_note-in-EchoRequest
unfolding resolved
returns-in_ok-echo_note-in-EchoRequest c = λ slices.
    rw (tunnel_read c.args.moment c.args.octets.now c.in-Ok.head c.in-Ok.body.now kind.EchoRequest
    c.in-Ok.ensures.message c.in-EchoRequest.is)
    (ap Note (c.in_ok-echo_note-in-EchoRequest.ensures c.in-Ok.head.seq (sym c.unwrap_or-seq.ensures)))

pub returns-in-Gpdu : goal.returns-in-Gpdu
returns-in-Gpdu c = λ slices.
    rw (tunnel_read c.args.moment c.args.octets.now c.in-Ok.head c.in-Ok.body.now kind.Gpdu c.in-Ok.ensures.message
    c.in-Gpdu.is)
    (c.decide_tunnelled.ensures slices)

pub returns-in_ok-words-in-Err : goal.returns-in_ok-words-in-Err
unfolding resolved
returns-in_ok-words-in-Err c = λ slices.
    rw (tunnel_refused c.args.moment c.args.octets.now c.in-Err.bad c.in-Err.ensures.refused c.in-Err.ensures.message)
    (ap Note (c.in_ok-words-in-Err.ensures ∙ c.tunnel_note.ensures))

pub returns-in_ok-words-in-EchoResponse : goal.returns-in_ok-words-in-EchoResponse
unfolding resolved
returns-in_ok-words-in-EchoResponse c = λ slices.
    rw (tunnel_noted c.args.moment c.args.octets.now c.in-Ok.head c.in-Ok.body.now c.in-Ok.ensures.message
    c.in-EchoResponse.is)
    (ap Note c.in_ok-words-in-EchoResponse.ensures)
