use Rattle.worker_core.specs.Seeing.{SeenBehind}
use Rattle.worker_core.proofs.turning.moved_up.Given as goal

abbrev pub invariant-loop-index : goal.invariant-loop-index
invariant-loop-index g l =
    SeenBehind (λ half. g.H.Traveller.slot_of (g.H.Traveller.name half)) l.from l.held l.fn.seen
    → SeenBehind (λ half. g.H.Traveller.slot_of (g.H.Traveller.name half)) l.index l.held l.seen
