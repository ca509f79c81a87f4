use Rattle.std.proofs.Common.{◌++◌, ◌∙◌, ap, List}
use Rattle.tft_codec.specs.declared.filter.Filter.{Filter}
use Rattle.record_codec.specs.Spelling.{u8, u64, optional, listed, peer_text, phase_text, qos_text, filter_text}
use Rattle.record_codec.proofs.PutLemmas.{put_6}
use Rattle.record_codec.proofs.writing.put_bearer.Goals as goal

pub returns : goal.returns
returns c =
    let bearer = c.args.bearer.now in
    let t5 = c.put_peer.new.text.items in
    put_6 c.args.text.now.items c.push.new.self.items c.put_u64.new.text.items c.put_phase.new.text.items
    c.put_qos.new.text.items t5 c.put_filters.new.text.items (u8 bearer.choice.index) (u64 bearer.life)
    (phase_text bearer.phase) (qos_text bearer.qos) (optional peer_text bearer.enb)
    (listed filter_text bearer.choice.filters) c.in_ok-push.ensures.items c.in_ok-put_u64.ensures
    c.in_ok-put_phase.ensures c.in_ok-put_qos.ensures c.in_ok-put_peer.ensures
    (c.in_ok-put_filters.ensures
    ∙ ap (λ (filters : List Filter). t5 ++ listed filter_text filters) c.as_slice.ensures.value)
