use Rattle.std.proofs.Common.{List, take}
use Rattle.tft_codec.specs.declared.tft.BearerFilters.{BearerFilters}
use Rattle.tft_match.specs.Walk.{IsFirstRank}
use Rattle.tft_match.proofs.WalkLemmas.{with_row}
use Rattle.tft_match.proofs.choice.first_with.Given as goal

abbrev pub invariant-loop-filter : goal.invariant-loop-filter
invariant-loop-filter l = (rows : List BearerFilters) → IsFirstRank rows l.packet l.fn.before
    → IsFirstRank (with_row rows l.row (take l.filter-index l.filter-items)) l.packet l.first
