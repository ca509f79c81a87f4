use Rattle.std.proofs.Common.{◌≡◌, take}
use Rattle.tft_codec.proofs.filter.copies.Given as goal

abbrev pub invariant-loop-item : goal.invariant-loop-item
invariant-loop-item l = l.copy.items ≡ take l.item-index l.items
