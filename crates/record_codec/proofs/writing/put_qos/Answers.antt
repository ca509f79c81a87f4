use Rattle.record_codec.specs.Spelling.{u8, u64}
use Rattle.record_codec.proofs.PutLemmas.{put_6}
use Rattle.record_codec.proofs.writing.put_qos.Goals as goal

pub returns : goal.returns
returns c =
    let qos = c.args.qos in
    put_6 c.args.text.now.items c.push.new.self.items c.push-2.new.self.items c.put_rate.new.text.items
    c.put_rate-2.new.text.items c.put_rate-3.new.text.items c.put_rate-4.new.text.items (u8 qos.arp) (u8 qos.qci)
    (u64 qos.mbr_up) (u64 qos.mbr_down) (u64 qos.gbr_up) (u64 qos.gbr_down) c.in_ok-push.ensures.items
    c.in_ok-push-2.ensures.items c.in_ok-put_rate.ensures c.in_ok-put_rate-2.ensures c.in_ok-put_rate-3.ensures
    c.in_ok-put_rate-4.ensures
