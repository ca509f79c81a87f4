use Rattle.std.proofs.Common.{ℕ, ◌+◌, length, ap, sym, ◌∙◌}
use Rattle.lane_core.specs.Ends.{taken}
use Rattle.counter_half.specs.Half.{whole_of}
use Rattle.counter_half.proofs.Looking.{one_whole}
use Rattle.counter_half.proofs.inner.DataInner.learn_next.Goals as goal

pub returns-clause-learnt : goal.returns-clause-learnt
returns-clause-learnt g c =
    let next = c.has_batch.new.self in
    let new = c.learn_batch.new.self in
    let one = one_whole next.state.done next.batch (taken next.versions)
    (c.has_batch.ensures.ready c.if-not-has_batch.false) next.came in
    λ _. ap (λ b. whole_of b (length (taken new.versions))) c.in_ok-learn_batch.ensures.whole
    ∙ ap (λ v. length (taken v)) c.learn_batch.ensures.versions
    ∙ sym one ∙ ap (λ (n : ℕ). n + 1) c.has_batch.ensures.learnt
