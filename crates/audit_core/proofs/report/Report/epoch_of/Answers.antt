use Rattle.std.proofs.Common.{◌∙◌, ap, sym}
use Rattle.audit_core.specs.Belonging.{own_epoch}
use Rattle.audit_core.proofs.report.Report.epoch_of.Goals as goal

pub returns-in-Charge-clause-epoch : goal.returns-in-Charge-clause-epoch
returns-in-Charge-clause-epoch c = λ made are.
    c.charged.ensures made are ∙ ap (own_epoch made c.args.self.now.epoch) (sym c.in-Charge.is)
