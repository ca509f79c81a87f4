use Rattle.std.proofs.Common.{◌++◌, ◌∙◌, ap, List}
use Rattle.bearer_state.specs.declared.bearer.Bearer.{Bearer}
use Rattle.bearer_state.specs.Session.{SessionState}
use Rattle.record_codec.specs.Spelling.{flag, u64, optional, listed, peer_text, kept_text, bearer_text}
use Rattle.record_codec.proofs.PutLemmas.{put_8}
use Rattle.record_codec.proofs.writing.put_session.Goals as goal

pub returns : goal.returns
returns c =
    let session = c.args.session.now in
    let is = c.session.view_is in
    let t0 = c.args.text.now.items in
    let t1 = c.put_flag.new.text.items in
    let t2 = c.put_peer.new.text.items in
    let t3 = c.put_rate.new.text.items in
    let t4 = c.put_rate-2.new.text.items in
    let t5 = c.put_u64.new.text.items in
    let t6 = c.put_u64-2.new.text.items in
    let t7 = c.put_kept.new.text.items in
    put_8 t0 t1 t2 t3 t4 t5 t6 t7 c.put_bearers.new.text.items (flag session.live) (optional peer_text session.mme)
    (u64 session.up) (u64 session.down) (u64 session.rates) (u64 session.lives) (optional kept_text session.last)
    (listed bearer_text session.bearers) (c.in_ok-put_flag.ensures ∙ ap (λ (s : SessionState). t0 ++ flag s.live) is)
    (c.in_ok-put_peer.ensures ∙ ap (λ (s : SessionState). t1 ++ optional peer_text s.mme) is)
    (c.in_ok-put_rate.ensures ∙ ap (λ (s : SessionState). t2 ++ u64 s.up) is)
    (c.in_ok-put_rate-2.ensures ∙ ap (λ (s : SessionState). t3 ++ u64 s.down) is)
    (c.in_ok-put_u64.ensures ∙ ap (λ (s : SessionState). t4 ++ u64 s.rates) is)
    (c.in_ok-put_u64-2.ensures ∙ ap (λ (s : SessionState). t5 ++ u64 s.lives) is)
    (c.in_ok-put_kept.ensures ∙ ap (λ (s : SessionState). t6 ++ optional kept_text s.last) is)
    (c.in_ok-put_bearers.ensures
    ∙ ap (λ (bearers : List Bearer). t7 ++ listed bearer_text bearers)
    (c.as_slice.ensures.value ∙ ap (λ (s : SessionState). s.bearers) is))
