use Rattle.std.proofs.Common.{◌≡◌, ◌+◌, ◌++◌, ◌∷◌, [], take, sym, ap, ◌∙◌}
use Rattle.std.proofs.lemmas.List.{take_more}
use Rattle.worker_core.specs.declared.worker.Leaving.{Leaving}
use Rattle.worker_core.proofs.Seeing.{due_more, none_due_yet}
use Rattle.worker_core.proofs.turning.due_of_notes.Goals as goal

pub loop-note-init : goal.loop-note-init
loop-note-init g c =
    none_due_yet (λ half. g.H.Traveller.slot_of (g.H.Traveller.name half)) g.H.Traveller.done_of c.args.held.now

pub loop-note-preserved : goal.loop-note-preserved
loop-note-preserved g c =
    let notes = c.args.leaving.now in
    let k = c.loop-note.note-index in
    let note = c.note-item.result in
    let next : take (k + 1) notes ≡ take k notes ++ note ∷ [] =
    take_more notes k note c.loop-note-test.true ∙ ap (λ (l : Leaving). take k notes ++ l ∷ []) (sym c.note-item.is) in
    c.earlier-first.ensures
    ∙ due_more (λ half. g.H.Traveller.slot_of (g.H.Traveller.name half)) g.H.Traveller.done_of (take k notes)
    (take (k + 1) notes) note c.args.held.now c.loop-note.first c.due_at.result next c.loop-note.invariant
    c.due_at.ensures
