use Rattle.std.proofs.Common.{take}
use Rattle.tft_match.specs.Choice.{HasDefault}
use Rattle.tft_match.proofs.choice.has_default.Given as goal

abbrev pub invariant-loop-row : goal.invariant-loop-row
invariant-loop-row l = HasDefault (take l.row-index l.rows) → ⊥
