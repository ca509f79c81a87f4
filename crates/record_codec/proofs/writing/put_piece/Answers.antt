use Rattle.std.proofs.Common.{◌++◌, ◌∙◌, ap}
use Rattle.charging_book.specs.Rows.{Counters}
use Rattle.record_codec.specs.Spelling.{u64, optional}
use Rattle.record_codec.proofs.PutLemmas.{put_7}
use Rattle.record_codec.proofs.writing.put_piece.Goals as goal

pub returns : goal.returns
returns c =
    let piece = c.args.piece.now in
    let counts = piece.counts in
    let is = c.counts.view_is in
    let t0 = c.args.text.now.items in
    let t1 = c.put_u64.new.text.items in
    let t2 = c.put_u64-2.new.text.items in
    let t3 = c.put_u64-3.new.text.items in
    let t4 = c.put_u64-4.new.text.items in
    let t5 = c.put_u64-5.new.text.items in
    put_7 t0 t1 t2 t3 t4 t5 c.put_moment_or_none.new.text.items c.put_moment_or_none-2.new.text.items (u64 counts.seq)
    (u64 counts.up_octets) (u64 counts.down_octets) (u64 counts.up_packets) (u64 counts.down_packets)
    (optional u64 piece.first) (optional u64 piece.last)
    (c.in_ok-put_u64.ensures ∙ ap (λ (k : Counters). t0 ++ u64 k.seq) is)
    (c.in_ok-put_u64-2.ensures ∙ ap (λ (k : Counters). t1 ++ u64 k.up_octets) is)
    (c.in_ok-put_u64-3.ensures ∙ ap (λ (k : Counters). t2 ++ u64 k.down_octets) is)
    (c.in_ok-put_u64-4.ensures ∙ ap (λ (k : Counters). t3 ++ u64 k.up_packets) is)
    (c.in_ok-put_u64-5.ensures ∙ ap (λ (k : Counters). t4 ++ u64 k.down_packets) is)
    c.in_ok-put_moment_or_none.ensures c.in_ok-put_moment_or_none-2.ensures
