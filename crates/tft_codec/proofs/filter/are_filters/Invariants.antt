use Rattle.std.proofs.Common.{take}
use Rattle.tft_codec.specs.Filter.{AreFilters}
use Rattle.tft_codec.proofs.filter.are_filters.Given as goal

abbrev pub invariant-loop-i : goal.invariant-loop-i
invariant-loop-i l = AreFilters (take l.i l.items)
