use Rattle.std.proofs.Common.{◌≡◌, take}
use Rattle.tft_codec.specs.Apply.{without}
use Rattle.tft_codec.proofs.applying.remove.Given as goal

abbrev pub invariant-loop-filter : goal.invariant-loop-filter
invariant-loop-filter l = l.items.items ≡ without (take l.filter-index l.filters) l.gone
