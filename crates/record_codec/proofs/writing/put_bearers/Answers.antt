use Rattle.std.proofs.Common.{length}
use Rattle.record_codec.specs.Spelling.{bearer_text}
use Rattle.record_codec.proofs.PutLemmas.{put_next_listed}
use Rattle.record_codec.proofs.writing.put_bearers.Goals as goal

pub loop-bearer-preserved : goal.loop-bearer-preserved
loop-bearer-preserved c =
    put_next_listed bearer_text c.args.bearers.now c.loop-bearer.bearer-index c.bearer-item.result c.args.text.now.items
    (length c.args.bearers.now) c.loop-bearer.text.items c.put_bearer.new.text.items c.loop-bearer-test.true c.bearer-item.is
    c.loop-bearer.invariant c.in_ok-put_bearer.ensures
