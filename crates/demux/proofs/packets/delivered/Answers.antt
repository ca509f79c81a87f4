use Rattle.std.proofs.Common.{◌≡◌, ℕ, List, sym, ap, subst, ◌∙◌}
use Rattle.pc_base.specs.declared.packet.Way.TheVariants.{Down}
use Rattle.demux.specs.declared.decision.Decision.TheVariants.{Packet}
use Rattle.demux.specs.declared.packet.LentPacket.{LentPacket}
use Rattle.demux.specs.Resolved.{addressee_in, resolved}
use Rattle.demux.specs.Tunnel.{delivered as asked_for}
use Rattle.demux.proofs.TunnelLemmas.{delivered_found, packet_read}
use Rattle.demux.proofs.packets.delivered.Goals as goal

pub returns-in-Some : goal.returns-in-Some
returns-in-Some c = λ slices moment.
    let book = c.args.book.now in
    let at = c.in-Some.slot in
    let with_ip : List ℕ → LentPacket = λ ip. record { moment = moment; way = Down; ip = ip } in
    let given : LentPacket = with_ip c.in-Ok.ip in
    ap (resolved slices book) (packet_read moment c.args.octets.now c.in-Ok.ensures.faultless)
    ∙ subst (λ (packet : LentPacket). resolved slices book (asked_for packet) ≡ Packet at given)
    (ap with_ip c.in-Ok.ensures.lent)
    (delivered_found slices book given at
    (sym (c.addressee_in_book.ensures ∙ ap (addressee_in book) c.destination.ensures) ∙ c.in-Some.is))
