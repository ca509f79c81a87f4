use Rattle.std.proofs.Common.{sym, ◌∙◌, arith}
use Rattle.record_codec.proofs.MadeLemmas.{session_is}
use Rattle.record_codec.proofs.sessions.session_at.Goals as goal

pub invariant_of-session : goal.invariant_of-session
invariant_of-session c =
    let test = sym (rw c.as_slice.ensures.value at c.may_be_session.ensures) ∙ c.if-not-may_be_session.false in
    session_is (record {
      slot = c.args.slot;
      live = c.in_ok-live.live;
      mme = c.in_ok-mme.mme;
      up = c.in_ok-up.up;
      down = c.in_ok-down.down;
      rates = c.in_ok-rates.rates;
      bearers = c.in_ok-bearers.bearers;
      lives = c.in_ok-lives.lives;
      last = c.in_ok-last.last;
    }) test (omega (arith, c.in_ok-rates.ensures.range)) (omega (arith, c.in_ok-lives.ensures.range))
    c.in_ok-last.ensures.kept
