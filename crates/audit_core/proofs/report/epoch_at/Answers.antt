use Rattle.std.proofs.Common.{nat_lt, rules, of_calls}
use Rattle.std.proofs.lemmas.Fn.{always_returns_same}
use Rattle.audit_core.proofs.ReportLemmas.{ends_parted, epoch_there}
use Rattle.audit_core.proofs.report.epoch_at.Goals as goal

pub returns : goal.returns
returns c = λ made are.
    epoch_there c.args.ends.now made c.args.line c.partition_point.result are c.partition_point.ensures.bound
    (c.partition_point.ensures.partitioned (λ end. nat_lt end c.args.line)
    (always_returns_same _ _ _ (λ a r f k. search (rules, of_calls))) (ends_parted c.args.ends.now made c.args.line are))
