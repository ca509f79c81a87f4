use Rattle.std.proofs.Common.{◌++◌, flat_map, ap, ◌∙◌}
use Rattle.bearer_state.specs.declared.version.ActiveBearer.{ActiveBearer}
use Rattle.trace_run.specs.Entries.{charges_text, open_for}
use Rattle.packet_steps.proofs.ResultLemmas.{on_ok}
use Rattle.trace_run.proofs.OpenLemmas.{opens_are}
use Rattle.trace_run.proofs.opens.push_subscriber.Goals as goal

pub returns-clause-after : goal.returns-clause-after
returns-clause-after c = λ places slot events taken stands.
    let own = c.slot-slot.ensures.after slot events taken stands in
    let counted = c.still_open-counted.ensures.after slot events taken stands in
    let bearers = c.bearers.ensures.after slot events taken stands in
    on_ok c.push_lives.result
    (λ told. told ∙ (λ i. c.args.report.now ++ charges_text places
    (flat_map (λ (b : ActiveBearer). open_for (own i) (counted i) b.life) (bearers i)))
    ∙ ap (λ entries. c.args.report.now ++ charges_text places entries) (opens_are slot events))
    (c.push_lives.ensures places)

pub returns-clause-own : goal.returns-clause-own
returns-clause-own c = λ places.
    on_ok c.push_lives.result
    (λ told. told ∙ (λ i. c.args.report.now ++ charges_text places
    (flat_map (λ (b : ActiveBearer). open_for (c.slot-slot.ensures.own i) (c.still_open-counted.ensures.own i) b.life)
    (c.bearers.ensures.own i))))
    (c.push_lives.ensures places)
