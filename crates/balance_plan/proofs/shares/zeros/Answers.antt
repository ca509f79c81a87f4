use Rattle.std.proofs.Common.{[], arith}
use Rattle.std.proofs.lemmas.Grind.{common_steps}
use Rattle.std.proofs.lemmas.List.FromFn.{map-range_with_len_more}
use Rattle.balance_plan.specs.Loads.{load_of}
use Rattle.balance_plan.proofs.shares.zeros.Goals as goal

pub loop-preserved : goal.loop-preserved
loop-preserved c =
    let more = map-range_with_len_more (load_of []) 0 c.loop.counter c.loop.counter (omega arith) in
    grind (arith, common_steps, more)
