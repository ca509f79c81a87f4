use Rattle.std.proofs.Common.{◌≡◌, take, drop, []}
use Rattle.record_codec.specs.Read.{are_new}
use Rattle.record_codec.proofs.subscribers.book_of.Given as goal

abbrev pub invariant-loop-imsi : goal.invariant-loop-imsi
invariant-loop-imsi l = record {
  taken : l.book ≡ take l.imsi-index l.imsis;
  new : are_new l.book (drop l.imsi-index l.imsis) ≡ are_new [] l.imsis;
}
