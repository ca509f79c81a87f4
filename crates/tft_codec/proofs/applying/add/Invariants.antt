use Rattle.std.proofs.Common.{◌≡◌, ◌++◌, take}
use Rattle.tft_codec.proofs.applying.add.Given as goal

abbrev pub invariant-loop-filter : goal.invariant-loop-filter
invariant-loop-filter l = l.items.items ≡ l.filters ++ take l.filter-index l.new
