use Rattle.std.proofs.Common.{◌∙◌, sym}
use Rattle.pc_outside.specs.InputRead.{Reached}
use Rattle.audit_core.specs.Refuting.{number_found}
use Rattle.audit_core.specs.Setups.{setup_of}
use Rattle.pc_outside.specs.declared.input_stop.InputStop.TheVariants as stopped
use Rattle.audit_core.proofs.AuditTold.{memory_told, told_so, write_failed}
use Rattle.audit_core.proofs.RefutingLemmas.{finds_so, says_so}
use Rattle.audit_core.proofs.auditing.judge.Goals as goal

pub returns-in-Ok-clause-audits : goal.returns-in-Ok-clause-audits
returns-in-Ok-clause-audits g c = λ start left texts hears reached.
    let finds = c.in-Ok.ensures.finds texts hears in
    let setup = setup_of c.args.heard.setup in
    rw c.ending_of.ensures
    (told_so c.args.why setup (number_found c.in-Ok.found) c.write_whole.result start left _ _ texts _
    (finds_so setup texts c.in-Ok.found finds) (says_so c.args.why setup texts c.in-Ok.found finds) reached
    (rw (← c.in-Ok.ensures.text, ← c.as_slice.ensures) c.write_whole.ensures.whole)
    (rw (← c.in-Ok.ensures.text, ← c.as_slice.ensures) c.write_whole.ensures.cut))

pub returns-in-Err-clause-audits : goal.returns-in-Err-clause-audits
returns-in-Err-clause-audits g c = λ start left texts hears reached.
    memory_told c.args.why (setup_of c.args.heard.setup) start left _
    (λ octets rest. Reached stopped.Ended octets rest texts) reached

pub returns-in-Ok-clause-write_fault : goal.returns-in-Ok-clause-write_fault
returns-in-Ok-clause-write_fault g c = λ is.
    write_failed (number_found c.in-Ok.found) c.write_whole.result _ c.write_whole.ensures.fault
    (sym c.ending_of.ensures ∙ is)
