use Rattle.std.proofs.Common.{rules, [], ◌∷◌, ◌++◌, ap, ◌∙◌}
use Rattle.epoch_schedule.proofs.Grown.{grows_more, reached}
use Rattle.epoch_schedule.proofs.grow.grow_control.Goals as goal

pub loop-alloc-preserved : goal.loop-alloc-preserved
loop-alloc-preserved c =
    grows_more _ _ c.loop-alloc.controls.items _ _ (search rules)
    (c.in_ok-push.ensures.items ∙ ap (λ x. c.loop-alloc.controls.items ++ x ∷ []) c.new.ensures) c.loop-alloc.invariant

pub returns : goal.returns
returns c = reached _ _ _ _ (search rules) c.loop-alloc.invariant
