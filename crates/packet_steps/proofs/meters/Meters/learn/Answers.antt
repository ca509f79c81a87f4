use Rattle.std.proofs.Common.{ℕ, cond, nat_lt, sym, ◌∙◌, ap}
use Rattle.std.specs.List.{fold}
use Rattle.std.proofs.lemmas.List.{take_all}
use Rattle.bearer_state.specs.Version.{VersionState}
use Rattle.packet_steps.specs.Meters.{MetersState, in_use, new_meter, with_begun}
use Rattle.packet_steps.proofs.ListLemmas.{fold_more}
use Rattle.packet_steps.proofs.meters.Meters.learn.Goals as goal

pub loop-bearer-preserved : goal.loop-bearer-preserved
loop-bearer-preserved c =
    c.in_ok-begin.ensures
    ∙ ap (λ meters. with_begun c.args.before.now meters c.bearer-item.result) c.loop-bearer.invariant
    ∙ sym (fold_more (with_begun c.args.before.now) (in_use c.rerate.new.self) c.bearers-bearer-items.result.now c.loop-bearer.bearer-index c.bearer-item.result
    c.loop-bearer-test.true c.bearer-item.is)

abbrev with_shared : MetersState → ℕ → ℕ → MetersState
with_shared meters up down = record meters { shared = new_meter up down }

pub returns : goal.returns
returns c =
    let old = in_use c.args.self.now in
    c.loop-bearer.invariant
    ∙ ap (fold (with_begun c.args.before.now) (in_use c.rerate.new.self))
    (take_all c.loop-bearer.bearer-index c.bearers-bearer-items.result.now c.loop-bearer-test.false
    ∙ c.bearers-bearer-items.ensures.value)
    ∙ ap (λ meters. fold (with_begun c.args.before.now) meters c.args.after.now.bearers)
    (c.rerate.ensures
    ∙ ap (λ rates. cond (nat_lt rates c.after.inside.rates)
    (with_shared old c.after.inside.up c.after.inside.down) old)
    (ap (λ (v : VersionState). v.rates) c.before-2.view_is)
    ∙ ap (λ (v : VersionState). cond (nat_lt c.args.before.now.rates v.rates)
    (with_shared old v.up v.down) old) c.after.view_is)
