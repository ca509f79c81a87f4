use Rattle.std.proofs.Common.{◌++◌, ◌∷◌, [], map, take, append_assoc, sym, ◌∙◌, ap}
use Rattle.std.proofs.lemmas.List.{append-nil, take_all}
use Rattle.packet_steps.specs.Change.{lacking_in}
use Rattle.packet_steps.proofs.MarkLemmas.{begun_more, starting}
use Rattle.packet_steps.proofs.changing.push_begun.Goals as goal

pub loop-bearer-init : goal.loop-bearer-init
loop-bearer-init c = sym (append-nil c.args.postings.now.items)

pub loop-bearer-preserved : goal.loop-bearer-preserved
loop-bearer-preserved c =
    let old = c.args.postings.now.items in
    let before = c.args.before.now in
    let after = c.args.after.now in
    let place = c.loop-bearer.bearer-index in
    let item = c.bearer-item.result in
    let seen = map starting (lacking_in before (take place after)) in
    let more = map starting (lacking_in before (item ∷ [])) in
    c.in_ok-push_start.ensures ∙ ap (λ xs. xs ++ more) c.loop-bearer.invariant ∙ append_assoc old seen more
    ∙ ap (λ xs. old ++ xs) (sym (begun_more before after place item c.loop-bearer-test.true c.bearer-item.is))

pub returns : goal.returns
returns c =
    c.loop-bearer.invariant
    ∙ ap (λ xs. c.args.postings.now.items ++ map starting (lacking_in c.args.before.now xs))
    (take_all c.loop-bearer.bearer-index c.args.after.now c.loop-bearer-test.false)
