use Rattle.std.proofs.Common.{◌≡◌, ◌≤◌, ◌+◌, ◌*◌, take}
use Rattle.std.specs.Prelude.{sum_by}
use Rattle.record_codec.specs.Read.{own_needed}
use Rattle.record_codec.proofs.counters.bucket_count.Given as goal

abbrev pub invariant-loop-bearer : goal.invariant-loop-bearer
invariant-loop-bearer l = record {
  so_far : l.count ≡ 2 + sum_by own_needed (take l.bearer-index l.bearers);
  few : l.count ≤ 2 + 2 * l.bearer-index;
}
