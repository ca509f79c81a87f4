use Rattle.std.proofs.Common.{arith}
use Rattle.migration.proofs.data_side.DataSide.asked.Goals as goal

pub returns-clause-few : goal.returns-clause-few
returns-clause-few g c =
    let a = c.args.self.now.laid.few in let b = c.args.self.now.laid.counted in omega arith
