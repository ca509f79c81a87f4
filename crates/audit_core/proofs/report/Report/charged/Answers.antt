use Rattle.std.proofs.Common.{◌≡◌, ◌∙◌, length, refl, ap, sym, subst}
use Rattle.report_lines.specs.declared.entry.ChargeEntry.{ChargeEntry}
use Rattle.report_lines.specs.declared.entry.Entry.TheVariants as entry
use Rattle.audit_core.specs.Belonging.{own_epoch}
use Rattle.audit_core.proofs.ReportLemmas.{length-ends}
use Rattle.audit_core.proofs.report.Report.charged.Goals as goal

pub returns-in-R : goal.returns-in-R
returns-in-R c = λ made are.
    subst (λ (own : ChargeEntry). c.args.self.now.epoch ≡ own_epoch made c.args.self.now.epoch (entry.Charge own))
    (sym c.in-R.is) refl

pub returns-in-O : goal.returns-in-O
returns-in-O c = λ made are.
    subst (λ (own : ChargeEntry). length c.args.ends.now ≡ own_epoch made c.args.self.now.epoch (entry.Charge own))
    (sym c.in-O.is) (ap length are ∙ length-ends 0 made)
