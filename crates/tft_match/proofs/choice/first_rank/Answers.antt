use Rattle.std.proofs.Common.{subst, take}
use Rattle.std.proofs.lemmas.List.{take_more, take_all}
use Rattle.tft_match.specs.Walk.{IsFirstRank}
use Rattle.tft_match.proofs.choice.first_rank.Goals as goal

pub loop-row-preserved : goal.loop-row-preserved
loop-row-preserved c =
    rw (take_more c.args.rows.now c.loop-row.row-index c.row-item.result c.loop-row-test.true, ← c.row-item.is)
    (c.first_with-first.ensures (take c.loop-row.row-index c.args.rows.now) c.loop-row.invariant)

pub returns : goal.returns
returns c =
    subst (λ rows. IsFirstRank rows c.args.packet.now c.loop-row.first)
    (take_all c.loop-row.row-index c.args.rows.now c.loop-row-test.false) c.loop-row.invariant
