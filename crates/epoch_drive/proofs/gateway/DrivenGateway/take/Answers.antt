use Rattle.std.proofs.Common.{◌≡◌, ℕ, refl, subst, sym, ap, ◌∙◌, rules}
use Rattle.trace_lines.specs.Line.{Line}
use Rattle.demux.specs.Line.{asked}
use Rattle.demux.specs.Resolved.{HasMoment, IsDecision, book_behind, decided}
use Rattle.demux.specs.declared.decision.Decision.{Decision}
use Rattle.demux.specs.declared.decision.Decision.TheVariants as decision
use Rattle.demux.specs.declared.meant.Meant.TheVariants as meant
use Rattle.demux.specs.declared.packet.LentPacket.{LentPacket}
use Rattle.demux.proofs.MomentLemmas.{moment_decided}
use Rattle.demux.proofs.ResolvedLemmas.{book_resolved, is_decision}
use Rattle.at_rest.proofs.Turning.{IsDecided, turned_packet}
use Rattle.epoch_drive.proofs.Keeping.{takes_so}
use Rattle.epoch_drive.proofs.gateway.DrivenGateway.take.Goals as goal

pub returns-in_ok-keep_packet-in-Some : goal.returns-in_ok-keep_packet-in-Some
returns-in_ok-keep_packet-in-Some c = λ start taken has.
    let old = c.args.self.now in
    let line = c.args.line.now in
    let slot = c.in-Some.found.0 in
    let moment : c.line.inside.moment ≡ line.moment = ap (λ (l : Line). l.moment) c.line.view_is in
    let latest : c.line-inside.inside.0.1.0.0 ≡ line.moment = search rules in
    let with_moment : ℕ → LentPacket = λ m. record { moment = m; way = c.in-Some.found.1; ip = c.in-Some.found.2 } in
    let packet = with_moment c.line.inside.moment in
    let made : Decision = decision.Packet slot packet in
    let found : decided old.slices old.book line ≡ made =
    c.in-Some.ensures old.slices ∙ ap (λ m. decision.Packet slot (with_moment m)) (sym moment) in
    let is : IsDecided old.slices old.book line made = record {
      decision = sym found;
      behind = ap (book_behind old.book) (sym found) ∙ book_resolved old.slices old.book (asked line);
    } in
    let valid : IsDecision old.slices old.book made = subst (IsDecision old.slices old.book) found
    (is_decision old.slices old.book (asked line)) in
    let its_moment : HasMoment line.moment made =
    subst (HasMoment line.moment) found (moment_decided old.slices old.book line) in
    takes_so start taken old (record old { latest = c.line-inside.inside.0.1.0.0 }) c.args.lines.now
    c.keep_packet.new.lines line (meant.Packet slot packet) has
    (turned_packet old.slices old.book old.subscribers.items line slot packet has.are.turned.many is valid its_moment)
    c.in_ok-keep_packet-in-Some.ensures (refl, refl, refl, refl) latest
