use Rattle.std.proofs.Common.{◌≡◌, ◌++◌, take}
use Rattle.std.specs.List.{flat_map}
use Rattle.record_codec.specs.Spelling.{bucket_text}
use Rattle.record_codec.proofs.writing.put_buckets.Given as goal

abbrev pub invariant-loop-bucket : goal.invariant-loop-bucket
invariant-loop-bucket l =
    l.text.items ≡ l.fn.text.items ++ flat_map bucket_text (take l.bucket-index l.buckets)
