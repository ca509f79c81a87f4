use Rattle.std.proofs.Common.{◌≡◌, take}
use Rattle.std.specs.List.{position}
use Rattle.worker_core.specs.Leaves.{is_due}
use Rattle.worker_core.proofs.turning.due_of_notes.Given as goal

abbrev pub invariant-loop-note : goal.invariant-loop-note
invariant-loop-note g l = l.first ≡ position (λ half. is_due (take l.note-index l.leaving)
    (g.H.Traveller.slot_of (g.H.Traveller.name half)) (g.H.Traveller.done_of half)) l.held
