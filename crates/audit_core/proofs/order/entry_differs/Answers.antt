use Rattle.std.proofs.Common.{◌≡◌, ◌∙◌, Some}
use Rattle.audit_core.specs.Dues.{entry_due}
use Rattle.audit_core.specs.Telling.{tells_said}
use Rattle.audit_core.proofs.RestLemmas.{denied}
use Rattle.audit_core.proofs.TellLemmas.{tells_is}
use Rattle.audit_core.proofs.order.entry_differs.Goals as goal

pub returns-clause-some : goal.returns-clause-some
returns-clause-some c = record {
  differ = λ same.
      let is : c.args.entry.now ≡ entry_due c.args.due.now = cc in
      denied c.is_entry.ensures c.if-is_entry.false is;
  is = c.in_ok-tells.ensures
      ∙ (λ i. tells_said (Some (c.in_ok-stands.ensures i)) (Some (c.in_ok-asked.ensures i)))
      ∙ tells_is (Some c.args.entry.now) (Some (entry_due c.args.due.now));
}
