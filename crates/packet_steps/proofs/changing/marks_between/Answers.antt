use Rattle.std.proofs.Common.{[], ◌++◌, cond, map, filter, refl, ◌∙◌, ap}
use Rattle.packet_steps.specs.Change.{lacking_in, shares_ambr, shared_with}
use Rattle.packet_steps.proofs.MarkLemmas.{cutting, marks_joined, starting}
use Rattle.packet_steps.proofs.changing.marks_between.Goals as goal

pub returns : goal.returns
returns c =
    let before = c.args.before.now in
    let after = c.args.after.now in
    let first = c.in_ok-postings.postings.items in
    let pieces = cond c.args.was_set (map cutting (filter shares_ambr (shared_with after before))) [] in
    let lives = map starting (lacking_in before after) in
    marks_joined c.args.was_set before after first pieces lives _ c.in_ok-postings.ensures refl refl
    (c.in_ok-push_begun.ensures ∙ ap (λ xs. xs ++ lives) c.in_ok-push_cut.ensures)
