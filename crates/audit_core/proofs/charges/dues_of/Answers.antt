use Rattle.std.proofs.Common.{◌∙◌, map, ap, arith}
use Rattle.std.proofs.lemmas.List.{take_all}
use Rattle.std.proofs.lemmas.Result.{IfOk-weaker}
use Rattle.audit_core.specs.Entries.{slot_charged}
use Rattle.audit_core.specs.Sharing.{shares}
use Rattle.audit_core.proofs.AmongLemmas.{keyed_by, shares_own}
use Rattle.audit_core.proofs.charges.dues_of.Goals as goal

pub returns : goal.returns
returns c = IfOk-weaker c.shares_of.result _ _ (λ all is.
    is ∙ ap (shares c.args.slots) (c.as_slice.ensures.value ∙ c.loop-charge.invariant
    ∙ ap (map (keyed_by slot_charged)) (take_all c.loop-charge.charge-index c.args.due.now (omega arith)))
    ∙ shares_own slot_charged c.args.slots c.args.due.now) c.shares_of.ensures
