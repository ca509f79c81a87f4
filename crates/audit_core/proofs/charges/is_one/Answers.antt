use Rattle.std.proofs.Common.{◌∙◌, take, sym, subst, inl, inr, arith}
use Rattle.std.specs.Prelude.{Contains}
use Rattle.std.proofs.lemmas.List.{take_all}
use Rattle.std.proofs.lemmas.List.Elements.{Contains-get_or, Contains-push_cases}
use Rattle.audit_core.proofs.RestLemmas.{denied, granted, refused}
use Rattle.audit_core.proofs.Differing.{took_one}
use Rattle.audit_core.proofs.charges.is_one.Goals as goal

pub returns-then-same_charge : goal.returns-then-same_charge
returns-then-same_charge c =
    granted (subst (Contains c.args.some.now)
    (sym c.one-item.is ∙ c.same_charge.ensures.0 c.if-same_charge.true)
    (Contains-get_or c.args.some.now c.loop-one.one-index c.one-item.result c.loop-one-test.true))

pub loop-one-preserved : goal.loop-one-preserved
loop-one-preserved c = λ there.
    elim (Contains-push_cases (take c.loop-one.one-index c.args.some.now) c.one-item.result c.args.charge.now
    (subst (λ xs. Contains xs c.args.charge.now)
    (took_one c.args.some.now c.loop-one.one-index c.one-item.result c.loop-one-test.true c.one-item.is) there)) [
      | inl before ↦ c.loop-one.invariant before
      | inr here ↦ denied c.same_charge.ensures c.if-same_charge.false here
    ]

pub returns : goal.returns
returns c =
    refused (λ there. c.loop-one.invariant
    (subst (λ xs. Contains xs c.args.charge.now) (sym (take_all c.loop-one.one-index c.args.some.now (omega arith))) there))
