use Rattle.std.proofs.Common.{ℕ, List, ap, ◌∙◌}
use Rattle.epoch_schedule.specs.Waiting.{is_in}
use Rattle.epoch_schedule.proofs.Indices.{in_pushed}
use Rattle.epoch_schedule.proofs.roster.all_indices.Goals as goal

pub loop-index-preserved : goal.loop-index-preserved
loop-index-preserved c i below =
    ap (λ (xs : List ℕ). is_in xs i) c.in_ok-push.ensures.items
    ∙ in_pushed c.loop-index.all.items c.loop-index.index i below (c.loop-index.invariant i)
