use Rattle.std.proofs.Common.{◌∙◌, ◌++◌, ◌∷◌, [], take, sym, ap}
use Rattle.std.specs.List.{filter_map}
use Rattle.std.proofs.lemmas.List.{take_more}
use Rattle.std.proofs.lemmas.List.Elements.{filter_map-append}
use Rattle.balance_plan.specs.Packets.{packet_in}
use Rattle.balance_plan.proofs.packets.keyed_packets.Goals as goal

pub loop-entry-preserved : goal.loop-entry-preserved
loop-entry-preserved c =
    let i = c.loop-entry.entry-index in
    let entries = c.args.entries.now in
    let entry = c.entry-item.result in
    c.in_ok-push_packet.ensures
    ∙ ap (λ its. its ++ filter_map packet_in (entry ∷ [])) c.loop-entry.invariant
    ∙ sym (filter_map-append packet_in (take i entries) (entry ∷ []))
    ∙ ap (filter_map packet_in) (sym (take_more entries i entry c.loop-entry-test.true
    ∙ ap (λ e. take i entries ++ e ∷ []) (sym c.entry-item.is)))
