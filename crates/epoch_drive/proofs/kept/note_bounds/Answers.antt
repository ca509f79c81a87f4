use Rattle.std.proofs.Common.{◌≡◌, ◌++◌, ◌∷◌, [], ℕ, map, take, sym, ap, ◌∙◌}
use Rattle.std.proofs.lemmas.List.{map_push, take_more}
use Rattle.subscriber.specs.Standing.{SubscriberState}
use Rattle.epoch_drive.proofs.kept.note_bounds.Goals as goal

pub loop-subscriber-preserved : goal.loop-subscriber-preserved
loop-subscriber-preserved c =
    let at = c.loop-subscriber in
    let all = c.args.subscribers.now in
    let one = c.subscriber-item.result in
    let before = take at.subscriber-index all in
    let bound : SubscriberState → ℕ = λ s. s.destination in
    let own : c.destination.inside.0 ≡ bound one = c.destination.view_is ∙ c.destination-destination.ensures in
    c.in_ok-push.ensures.items ∙ ap (λ (k : ℕ). at.bounds.items ++ k ∷ []) own
    ∙ ap (λ xs. xs ++ bound one ∷ []) at.invariant
    ∙ sym (map_push bound before one)
    ∙ ap (λ (s : SubscriberState). map bound (before ++ s ∷ [])) c.subscriber-item.is
    ∙ ap (map bound) (sym (take_more all at.subscriber-index one c.loop-subscriber-test.true))
