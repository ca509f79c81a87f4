use Rattle.std.proofs.Common.{take}
use Rattle.tft_match.specs.Walk.{IsFirstRank}
use Rattle.tft_match.proofs.choice.first_rank.Given as goal

abbrev pub invariant-loop-row : goal.invariant-loop-row
invariant-loop-row l = IsFirstRank (take l.row-index l.rows) l.packet l.first
