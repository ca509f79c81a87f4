use Rattle.rate_policer.proofs.Standing.{stands_full}
use Rattle.rate_policer.proofs.bucket.Bucket.new.Goals as goal

pub returns-clause-empty : goal.returns-clause-empty
returns-clause-empty c = stands_full c.args.rate c.burst.result c.burst.ensures.value
