use Rattle.std.proofs.Common.{List, sym, ◌∙◌, ap}
use Rattle.std.specs.List.{fold}
use Rattle.std.proofs.lemmas.List.{take_all}
use Rattle.pc_base.specs.declared.effect.Effect.{Effect}
use Rattle.packet_steps.specs.Past.{Past}
use Rattle.packet_steps.specs.Change.{released}
use Rattle.packet_steps.proofs.ListLemmas.{fold_more}
use Rattle.gate_model.specs.Memory.{past_at}
use Rattle.gate_model.proofs.memory.Memory.release_all.Goals as goal

pub loop-row-preserved : goal.loop-row-preserved
loop-row-preserved c =
    let start : Past × List Effect = (past_at c.args.version.now c.args.self.now, c.args.effects.now.items) in
    let held = c.args.rows.now in
    let place = c.loop-row.row-index in
    let row = c.row-item.result in
    fold_more released start held place row c.loop-row-test.true c.row-item.is
    ∙ ap (λ so_far. released so_far row) c.loop-row.invariant
    ∙ c.in_ok-release.ensures

pub returns : goal.returns
returns c =
    ap (fold released (past_at c.args.version.now c.args.self.now, c.args.effects.now.items))
    (sym (take_all c.loop-row.row-index c.args.rows.now c.loop-row-test.false))
    ∙ c.loop-row.invariant
