use Rattle.std.proofs.Common.{length}
use Rattle.record_codec.specs.Spelling.{held_text}
use Rattle.record_codec.proofs.PutLemmas.{put_next_listed}
use Rattle.record_codec.proofs.writing.put_all_held.Goals as goal

pub loop-row-preserved : goal.loop-row-preserved
loop-row-preserved c =
    put_next_listed held_text c.args.held.now c.loop-row.row-index c.row-item.result c.args.text.now.items
    (length c.args.held.now) c.loop-row.text.items c.put_held.new.text.items c.loop-row-test.true c.row-item.is
    c.loop-row.invariant c.in_ok-put_held.ensures
