use Rattle.std.proofs.Common.{◌∙◌, ◌++◌, ◌∷◌, [], take, sym, ap}
use Rattle.std.specs.List.{filter_map}
use Rattle.std.proofs.lemmas.List.Elements.{filter_map-append}
use Rattle.audit_core.specs.Meant.{line_told, lines_of}
use Rattle.audit_core.specs.Played.{placed_in}
use Rattle.audit_core.proofs.RestLemmas.{mapped_more}
use Rattle.audit_core.proofs.slots.packets_of.Goals as goal

pub loop-told-preserved : goal.loop-told-preserved
loop-told-preserved c =
    let i = c.loop-told.told-index in
    let lines = c.args.lines.now in
    let told = c.told-item.result in
    c.in_ok-push_packet.ensures
    ∙ ap (λ its. its ++ filter_map placed_in (line_told told ∷ [])) c.loop-told.invariant
    ∙ sym (filter_map-append placed_in (lines_of (take i lines)) (line_told told ∷ []))
    ∙ ap (filter_map placed_in) (mapped_more line_told [] lines i told c.loop-told-test.true c.told-item.is)
