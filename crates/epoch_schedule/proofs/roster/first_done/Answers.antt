use Rattle.std.proofs.Common.{rules, ◌≤◌, [], length, arith}
use Rattle.epoch_schedule.proofs.Indices.{done_first}
use Rattle.epoch_schedule.proofs.roster.first_done.Goals as goal

pub returns-clause-place : goal.returns-clause-place
returns-clause-place c =
    let whole : length c.args.called.now ≤ c.loop-index.index-index = search rules in
    done_first (record { slots = c.args.slots.now; controls = []; datas = [] }) c.args.halves.now c.args.called.now
    c.loop-index.first c.requires c.loop-index.invariant.first
    (λ k below. c.loop-index.invariant.stays k (omega (arith, below, whole)))
