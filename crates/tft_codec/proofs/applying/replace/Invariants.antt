use Rattle.std.proofs.Common.{◌≡◌, take, map}
use Rattle.tft_codec.specs.Apply.{replaced}
use Rattle.tft_codec.proofs.applying.replace.Given as goal

abbrev pub invariant-loop-filter : goal.invariant-loop-filter
invariant-loop-filter l = l.items.items ≡ map (replaced l.new) (take l.filter-index l.filters)
