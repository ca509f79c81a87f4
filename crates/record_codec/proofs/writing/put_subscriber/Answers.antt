use Rattle.std.proofs.Common.{◌++◌, ◌∙◌, ap}
use Rattle.subscriber.specs.Standing.{SubscriberState}
use Rattle.record_codec.specs.Saved.{parts_of}
use Rattle.record_codec.specs.Spelling.{u8, u64, measured, session_text, counters_text}
use Rattle.record_codec.proofs.PutLemmas.{put_6}
use Rattle.record_codec.proofs.writing.put_subscriber.Goals as goal

pub returns : goal.returns
returns c =
    let one = c.args.subscriber.now in
    let is = c.subscriber.view_is in
    let t1 = c.put_imsi.new.text.items in
    let t2 = c.put_session.new.text.items in
    let t3 = c.put_u64.new.text.items in
    let t4 = c.put_u64-2.new.text.items in
    let t5 = c.put_slice.new.text.items in
    put_6 c.args.text.now.items t1 t2 t3 t4 t5 c.put_counters.new.text.items (measured u8 c.args.imsi.now)
    (session_text one.session) (u64 one.version.number) (u64 one.packets) (u8 one.destination)
    (counters_text (parts_of one.version.bearers one.counters)) c.in_ok-put_imsi.ensures
    (c.in_ok-put_session.ensures ∙ ap (λ (s : SubscriberState). t1 ++ session_text s.session) is)
    (c.in_ok-put_u64.ensures ∙ ap (λ n. t2 ++ u64 n) c.commands.ensures)
    (c.in_ok-put_u64-2.ensures ∙ ap (λ (s : SubscriberState). t3 ++ u64 s.packets) is)
    (c.in_ok-put_slice.ensures ∙ ap (λ (s : SubscriberState). t4 ++ u8 s.destination) is)
    (c.in_ok-put_counters.ensures
    ∙ ap (λ (s : SubscriberState). t5 ++ counters_text (parts_of s.version.bearers s.counters)) is)
