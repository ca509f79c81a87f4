use Rattle.record_codec.specs.Spelling.{bucket_text}
use Rattle.record_codec.proofs.PutLemmas.{put_next}
use Rattle.record_codec.proofs.writing.put_buckets.Goals as goal

pub loop-bucket-preserved : goal.loop-bucket-preserved
loop-bucket-preserved c =
    put_next bucket_text c.args.buckets.now c.loop-bucket.bucket-index c.bucket-item.result c.args.text.now.items
    c.loop-bucket.text.items c.put_bucket.new.text.items c.loop-bucket-test.true c.bucket-item.is
    c.loop-bucket.invariant c.in_ok-put_bucket.ensures
