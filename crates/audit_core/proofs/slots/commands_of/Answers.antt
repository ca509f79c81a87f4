use Rattle.std.proofs.Common.{◌∙◌, ◌++◌, ◌∷◌, [], take, sym, ap}
use Rattle.std.specs.List.{filter_map}
use Rattle.std.proofs.lemmas.List.Elements.{filter_map-append}
use Rattle.audit_core.specs.Meant.{command_taken, line_told, lines_of}
use Rattle.audit_core.proofs.RestLemmas.{mapped_more}
use Rattle.audit_core.proofs.slots.commands_of.Goals as goal

pub loop-told-preserved : goal.loop-told-preserved
loop-told-preserved c =
    let i = c.loop-told.told-index in
    let lines = c.args.lines.now in
    let told = c.told-item.result in
    c.in_ok-push_command.ensures
    ∙ ap (λ its. its ++ filter_map command_taken (line_told told ∷ [])) c.loop-told.invariant
    ∙ sym (filter_map-append command_taken (lines_of (take i lines)) (line_told told ∷ []))
    ∙ ap (filter_map command_taken) (mapped_more line_told [] lines i told c.loop-told-test.true c.told-item.is)
