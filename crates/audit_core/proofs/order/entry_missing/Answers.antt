use Rattle.std.proofs.Common.{◌∙◌, Some, None, ap}
use Rattle.std.proofs.lemmas.Result.{IfOk-weaker}
use Rattle.audit_core.specs.Dues.{entry_due}
use Rattle.audit_core.specs.Telling.{tells_said}
use Rattle.audit_core.proofs.TellLemmas.{tells_is}
use Rattle.audit_core.proofs.order.entry_missing.Goals as goal

pub returns : goal.returns
returns c = IfOk-weaker c.tells.result _ _ (λ found is. record {
  differ = λ same. cc;
  is = is ∙ ap (λ s. tells_said None (Some s)) c.in_ok-asked.ensures ∙ tells_is None (Some (entry_due c.args.due.now));
}) c.tells.ensures
