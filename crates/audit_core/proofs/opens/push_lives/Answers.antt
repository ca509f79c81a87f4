use Rattle.std.proofs.Common.{◌++◌, ◌∙◌, ap}
use Rattle.bearer_state.specs.declared.version.ActiveBearer.{ActiveBearer}
use Rattle.audit_core.specs.Opens.{open_for}
use Rattle.audit_core.proofs.OpenLemmas.{lives_more}
use Rattle.audit_core.proofs.opens.push_lives.Goals as goal

pub loop-bearer-preserved : goal.loop-bearer-preserved
loop-bearer-preserved c =
    c.in_ok-push_life.ensures
    ∙ ap (λ prefix. prefix ++ open_for c.args.slot c.args.counted.now c.bearer-item.result.life) c.loop-bearer.invariant
    ∙ lives_more (λ (bearer : ActiveBearer). open_for c.args.slot c.args.counted.now bearer.life)
    c.args.all.now.items c.args.bearers.now c.loop-bearer.bearer-index c.bearer-item.result c.loop-bearer-test.true
    c.bearer-item.is
