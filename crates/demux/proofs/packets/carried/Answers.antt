use Rattle.std.proofs.Common.{ℕ, List, sym, ap, ◌∙◌}
use Rattle.pc_base.specs.declared.packet.Way.TheVariants.{Up}
use Rattle.demux.specs.declared.decision.Decision.TheVariants.{Packet}
use Rattle.demux.specs.declared.packet.LentPacket.{LentPacket}
use Rattle.demux.proofs.TunnelLemmas.{tunnelled_found}
use Rattle.demux.proofs.packets.carried.Goals as goal

pub returns-in-Ok : goal.returns-in-Ok
returns-in-Ok c = λ slices moment.
    let end : ℕ × ℕ = c.in-Some.end in
    let with_ip : List ℕ → LentPacket = λ ip. record { moment = moment; way = Up end.1; ip = ip } in
    tunnelled_found slices c.args.book.now moment c.args.teid c.args.payload.now end
    (sym c.bearer_in_book.ensures ∙ c.in-Some.is) c.in-Ok.ensures.faultless
    ∙ ap (λ ip. Packet end.0 (with_ip ip)) (sym c.in-Ok.ensures.lent)
