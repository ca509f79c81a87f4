use Rattle.std.proofs.Common.{sym, ◌∙◌}
use Rattle.pc_outside.specs.InputRead.{Reached}
use Rattle.pc_outside.specs.declared.input_stop.InputStop.TheVariants as stopped
use Rattle.balance_plan.specs.Balance.{balanced}
use Rattle.balance_plan.specs.Written.{text_of}
use Rattle.balance_plan.proofs.BalanceLemmas.{memory_said, none_of, refused_said, report_said, some_of, written_so}
use Rattle.balance_plan.proofs.balancing.level.Goals as goal

pub returns-then-is_some-clause-balances : goal.returns-then-is_some-clause-balances
returns-then-is_some-clause-balances g c = λ start left texts hears reached.
    let bad = some_of c.args.heard.now.bad (sym c.is_some.ensures ∙ c.if-is_some.true) in
    refused_said c.args.slices c.args.most c.args.heard.now bad.0 start left _ texts hears bad.1 reached

pub returns-then-heard-clause-balances : goal.returns-then-heard-clause-balances
returns-then-heard-clause-balances g c = λ start left texts hears reached.
    report_said c.args.slices c.args.most c.args.heard.now start left _ texts hears
    (none_of c.args.heard.now.bad (sym c.is_some.ensures ∙ c.if-is_some.false)) c.if-heard.true reached

pub returns-in-Ok-clause-balances : goal.returns-in-Ok-clause-balances
returns-in-Ok-clause-balances g c = λ start left texts hears reached.
    written_so c.write.result c.args.slices c.args.most c.args.heard.now start left _ _ texts c.as_slice-in-Ok.result.now
    c.write.ensures.written hears (none_of c.args.heard.now.bad (sym c.is_some.ensures ∙ c.if-is_some.false))
    c.if-heard.false
    (c.as_slice-in-Ok.ensures ∙ c.in-Ok.ensures
    ∙ (λ i. text_of (balanced c.args.slices c.args.most (c.as_slice-2.ensures.value i) (c.as_slice.ensures.value i))))
    reached

pub returns-in-Err-clause-balances : goal.returns-in-Err-clause-balances
returns-in-Err-clause-balances g c = λ start left texts hears reached.
    memory_said c.args.slices c.args.most start left _ (λ octets rest. Reached stopped.Ended octets rest texts) reached
