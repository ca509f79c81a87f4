use Rattle.std.proofs.Common.{[], ◌∷◌, ◌++◌, List, ℕ, get_or, ap, ◌∙◌}
use Rattle.epoch_schedule.proofs.SlotSets.{get_push}
use Rattle.epoch_schedule.proofs.busy.reach_list.Goals as goal

pub loop-alloc-preserved : goal.loop-alloc-preserved
loop-alloc-preserved c = λ other.
    ap (λ (xs : List (List ℕ)). get_or xs other [])
    (c.in_ok-push.ensures.items ∙ ap (λ (x : List ℕ). c.loop-alloc.busy.items ++ x ∷ []) c.new.ensures)
    ∙ get_push c.loop-alloc.busy.items other ∙ c.loop-alloc.invariant other
