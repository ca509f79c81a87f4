use Rattle.std.proofs.Common.{subst}
use Rattle.pc_outside.specs.InputRead.{Reached}
use Rattle.pc_outside.specs.WhereTold.{WhereTold}
use Rattle.balance_plan.proofs.BalanceLemmas.{big_so, fault_so, long_so}
use Rattle.balance_plan.proofs.balancing.balance.Goals as goal

pub returns-in-Ok-default-Ended-clause-balances : goal.returns-in-Ok-default-Ended-clause-balances
returns-in-Ok-default-Ended-clause-balances g c =
    let ended = c.in-Ok-default-Ended.ensures.ended in
    c.level.ensures.balances _ _ ended.done ended.hears
    (subst (λ stop. WhereTold (g.S.Source.left c.args.source.now) (g.S.Source.left c.hear.new.source)
    (λ octets rest. Reached stop octets rest ended.done)) c.in-Ok-default-Ended.field-0-1-is ended.reached)

pub returns-in-Ok-default-ReadFault-clause-balances : goal.returns-in-Ok-default-ReadFault-clause-balances
returns-in-Ok-default-ReadFault-clause-balances g c =
    let ended = c.in-Ok-default-ReadFault.ensures.ended in
    fault_so c.unless_refused.result c.args.slices c.args.most c.in-Ok-default-ReadFault.heard _ _ _ ended.done
    ended.hears c.unless_refused.ensures.refused c.unless_refused.ensures.other
    (subst (λ stop. WhereTold (g.S.Source.left c.args.source.now) (g.S.Source.left c.hear.new.source)
    (λ octets rest. Reached stop octets rest ended.done)) c.in-Ok-default-ReadFault.field-0-1-is ended.reached)

pub returns-in-Ok-default-LineLong-clause-balances : goal.returns-in-Ok-default-LineLong-clause-balances
returns-in-Ok-default-LineLong-clause-balances g c =
    let ended = c.in-Ok-default-LineLong.ensures.ended in
    long_so c.unless_refused-in-Ok-default-LineLong.result c.args.slices c.args.most c.in-Ok-default-LineLong.heard _ _ _
    ended.done ended.hears c.unless_refused-in-Ok-default-LineLong.ensures.refused
    c.unless_refused-in-Ok-default-LineLong.ensures.other
    (subst (λ stop. WhereTold (g.S.Source.left c.args.source.now) (g.S.Source.left c.hear.new.source)
    (λ octets rest. Reached stop octets rest ended.done)) c.in-Ok-default-LineLong.field-0-1-is ended.reached)

pub returns-in-Ok-default-TooLong-clause-balances : goal.returns-in-Ok-default-TooLong-clause-balances
returns-in-Ok-default-TooLong-clause-balances g c =
    let ended = c.in-Ok-default-TooLong.ensures.ended in
    big_so c.unless_refused-in-Ok-default-TooLong.result c.args.slices c.args.most c.in-Ok-default-TooLong.heard _ _ _
    ended.done ended.hears c.unless_refused-in-Ok-default-TooLong.ensures.refused
    c.unless_refused-in-Ok-default-TooLong.ensures.other
    (subst (λ stop. WhereTold (g.S.Source.left c.args.source.now) (g.S.Source.left c.hear.new.source)
    (λ octets rest. Reached stop octets rest ended.done)) c.in-Ok-default-TooLong.field-0-1-is ended.reached)
