use Rattle.std.proofs.Common.{◌++◌, ◌∷◌, [], cond, map, filter, take, append_assoc, sym, ◌∙◌, ap}
use Rattle.std.proofs.lemmas.List.{append-nil, take_all}
use Rattle.packet_steps.specs.Change.{shares_ambr, shared_with}
use Rattle.packet_steps.proofs.MarkLemmas.{cut_more, cutting}
use Rattle.packet_steps.proofs.changing.push_cut.Goals as goal

pub loop-bearer-init : goal.loop-bearer-init
loop-bearer-init c = sym (append-nil c.args.postings.now.items)

pub loop-bearer-preserved : goal.loop-bearer-preserved
loop-bearer-preserved c =
    let old = c.args.postings.now.items in
    let before = c.args.before.now in
    let after = c.args.after.now in
    let place = c.loop-bearer.bearer-index in
    let item = c.bearer-item.result in
    let seen = map cutting (filter shares_ambr (shared_with after (take place before))) in
    let more = map cutting (filter shares_ambr (shared_with after (item ∷ []))) in
    c.in_ok-push_piece.ensures ∙ ap (λ xs. xs ++ more) c.loop-bearer.invariant ∙ append_assoc old seen more
    ∙ ap (λ xs. old ++ xs) (sym (cut_more before after place item c.loop-bearer-test.true c.bearer-item.is))

pub returns : goal.returns
returns c =
    let old = c.args.postings.now.items in
    let after = c.args.after.now in
    let all = map cutting (filter shares_ambr (shared_with after c.args.before.now)) in
    c.loop-bearer.invariant
    ∙ ap (λ xs. old ++ map cutting (filter shares_ambr (shared_with after xs)))
    (take_all c.loop-bearer.bearer-index c.args.before.now c.loop-bearer-test.false)
    ∙ ap (λ b. old ++ cond b all []) (sym c.if-not-was_set.false)
