use Rattle.std.proofs.Common.{subst}
use Rattle.pc_outside.specs.InputRead.{Reached}
use Rattle.audit_core.specs.Setups.{setup_of}
use Rattle.pc_outside.specs.WhereTold.{WhereTold}
use Rattle.audit_core.proofs.AuditTold.{big_told, fault_told, long_told, memory_told}
use Rattle.audit_core.proofs.auditing.audit.Goals as goal

pub returns-in-Ok-default-Ended-clause-audits : goal.returns-in-Ok-default-Ended-clause-audits
returns-in-Ok-default-Ended-clause-audits g c =
    let ended = c.in-Ok-default-Ended.ensures.ended in
    rw (← c.in-Ok-default-Ended.ensures.setup) (c.judge.ensures.audits _ _ ended.done ended.hears
    (subst (λ stop. WhereTold (g.S.Source.left c.args.source.now) (g.S.Source.left c.hear_input.new.source)
    (λ octets rest. Reached stop octets rest ended.done)) c.in-Ok-default-Ended.field-0-1-is ended.reached))

pub returns-in-Ok-default-ReadFault-clause-audits : goal.returns-in-Ok-default-ReadFault-clause-audits
returns-in-Ok-default-ReadFault-clause-audits g c =
    let ended = c.in-Ok-default-ReadFault.ensures.ended in
    fault_told c.args.why (setup_of c.args.setup.now) _ _ _ ended.done
    (subst (λ stop. WhereTold (g.S.Source.left c.args.source.now) (g.S.Source.left c.hear_input.new.source)
    (λ octets rest. Reached stop octets rest ended.done)) c.in-Ok-default-ReadFault.field-0-1-is ended.reached)

pub returns-in-Ok-default-LineLong-clause-audits : goal.returns-in-Ok-default-LineLong-clause-audits
returns-in-Ok-default-LineLong-clause-audits g c =
    let ended = c.in-Ok-default-LineLong.ensures.ended in
    long_told c.args.why (setup_of c.args.setup.now) _ _ _ ended.done
    (subst (λ stop. WhereTold (g.S.Source.left c.args.source.now) (g.S.Source.left c.hear_input.new.source)
    (λ octets rest. Reached stop octets rest ended.done)) c.in-Ok-default-LineLong.field-0-1-is ended.reached)

pub returns-in-Ok-default-TooLong-clause-audits : goal.returns-in-Ok-default-TooLong-clause-audits
returns-in-Ok-default-TooLong-clause-audits g c =
    let ended = c.in-Ok-default-TooLong.ensures.ended in
    big_told c.args.why (setup_of c.args.setup.now) _ _ _ ended.done
    (subst (λ stop. WhereTold (g.S.Source.left c.args.source.now) (g.S.Source.left c.hear_input.new.source)
    (λ octets rest. Reached stop octets rest ended.done)) c.in-Ok-default-TooLong.field-0-1-is ended.reached)

pub returns-in-Err-clause-audits : goal.returns-in-Err-clause-audits
returns-in-Err-clause-audits g c =
    memory_told c.args.why (setup_of c.args.setup.now) _ _ _ (λ octets rest. Unit {0}) c.hear_input.ensures.told

pub judge-requires : goal.judge-requires
judge-requires g c =
    let ended = c.in-Ok-default-Ended.ensures.ended in (ended.done, ended.hears)
