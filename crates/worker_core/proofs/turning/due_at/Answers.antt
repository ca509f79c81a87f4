use Rattle.std.proofs.Common.{refl, subst, ◌≤◌, ◌<◌}
use Rattle.worker_core.proofs.Seeing.{due_there, due_later, due_nowhere}
use Rattle.worker_core.proofs.turning.due_at.Goals as goal

pub returns-in_default : goal.returns-in_default
returns-in_default g c =
    due_nowhere (λ half. g.H.Traveller.slot_of (g.H.Traveller.name half)) c.args.held.now c.args.seen.now c.requires
    g.H.Traveller.done_of c.args.note.now (c.in_default.ensures.none refl)

pub returns-then-note-done : goal.returns-then-note-done
returns-then-note-done g c =
    due_there (λ half. g.H.Traveller.slot_of (g.H.Traveller.name half)) c.args.held.now c.args.seen.now c.requires
    g.H.Traveller.done_of c.args.note.now c.in-Some.at c.index-held-at.result c.in-Some.ensures.found.0
    c.in-Some.ensures.found.1 c.index-held-at.is
    (subst (λ n. c.args.note.now.until ≤ n) c.done.ensures c.if-note-done.true)

pub returns-else-note-done : goal.returns-else-note-done
returns-else-note-done g c =
    due_later (λ half. g.H.Traveller.slot_of (g.H.Traveller.name half)) c.args.held.now c.args.seen.now c.requires
    g.H.Traveller.done_of c.args.note.now c.in-Some.at c.index-held-at.result c.in-Some.ensures.found.0
    c.in-Some.ensures.found.1 c.index-held-at.is
    (subst (λ n. n < c.args.note.now.until) c.done.ensures c.if-note-done.false)
