use Rattle.std.proofs.Common.{◌≡◌, ap, ◌∙◌, arith}
use Rattle.bearer_state.specs.Session.{SessionState}
use Rattle.bearer_state.proofs.SessionLemmas.{asked_fits}
use Rattle.bearer_state.proofs.session.Session.ask.Goals as goal

pub invariant_of-self-2 : goal.invariant_of-self-2
invariant_of-self-2 c =
    let same_live : c.self.inside.live ≡ c.args.self.now.live = ap (λ (s : SessionState). s.live) c.self.view_is in
    let same_lives : c.self.inside.lives ≡ c.args.self.now.lives = ap (λ (s : SessionState). s.lives) c.self.view_is in
    rw c.in_ok-place.ensures.placed
    (asked_fits _ c.args.index c.args.seq c.args.qos c.args.filters c.self.invariant (same_live ∙ c.requires.live)
    (omega (arith, c.requires.room.lives)))
