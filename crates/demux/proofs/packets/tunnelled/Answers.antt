use Rattle.gtpu_codec.specs.declared.kind.GtpUKind.TheVariants as kind
use Rattle.demux.proofs.TunnelLemmas.{tunnel_read}
use Rattle.demux.proofs.packets.tunnelled.Goals as goal

pub returns-in-Gpdu : goal.returns-in-Gpdu
returns-in-Gpdu c = λ slices moment.
    rw (tunnel_read moment c.args.octets.now c.in-Ok.head c.in-Ok.body.now kind.Gpdu c.in-Ok.ensures.message
    c.in-Gpdu.is)
    (c.carried.ensures slices moment)
