use Rattle.std.proofs.Common.{◌++◌, flat_map, ap, ◌∙◌}
use Rattle.bearer_state.specs.declared.version.ActiveBearer.{ActiveBearer}
use Rattle.audit_core.specs.Opens.{open_for}
use Rattle.packet_steps.proofs.ResultLemmas.{on_ok}
use Rattle.audit_core.proofs.OpenLemmas.{opens_are}
use Rattle.audit_core.proofs.opens.push_opens.Goals as goal

pub returns : goal.returns
returns c = λ slot events stands.
    let own = c.slot-slot.ensures.after slot events _ stands in
    let counted = c.still_open-counted.ensures.after slot events _ stands in
    let bearers = c.bearers.ensures.after slot events _ stands in
    on_ok c.push_lives.result
    (λ told. told ∙ (λ i. c.args.all.now.items
    ++ flat_map (λ (b : ActiveBearer). open_for (own i) (counted i) b.life) (bearers i))
    ∙ ap (λ entries. c.args.all.now.items ++ entries) (opens_are slot events))
    c.push_lives.ensures
