use Rattle.std.proofs.Common.{◌≡◌, [], take, All}
use Rattle.tft_match.proofs.choice.have_filters.Given as goal

abbrev pub invariant-loop-row : goal.invariant-loop-row
invariant-loop-row l = All (λ row. row.filters ≡ []) (take l.row-index l.rows)
