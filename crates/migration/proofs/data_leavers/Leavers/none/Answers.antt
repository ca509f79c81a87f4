use Rattle.migration.proofs.DataCounted.{none_counted}
use Rattle.migration.proofs.data_leavers.Leavers.none.Goals as goal

pub returns-clause-each : goal.returns-clause-each
returns-clause-each c = λ slice. none_counted 64 slice
