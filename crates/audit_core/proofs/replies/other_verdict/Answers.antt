use Rattle.std.proofs.Common.{◌≡◌, ◌∙◌, IfNone, IfOk, IfSome, Some, sym, ap, subst}
use Rattle.std.specs.List.{cons_option}
use Rattle.report_lines.specs.Records.{PacketTold}
use Rattle.slot_execution.specs.Replaying.{verdicts_in}
use Rattle.audit_core.specs.Answers.{verdict_of}
use Rattle.audit_core.specs.Gateway.{IsOther}
use Rattle.audit_core.specs.Played.{IfShort, verdict_made}
use Rattle.audit_core.proofs.ShareLemmas.{no_verdict}
use Rattle.audit_core.proofs.replies.other_verdict.Goals as goal

pub returns-in-P-clause-same : goal.returns-in-P-clause-same
returns-in-P-clause-same c =
    let says = ap Some (ap (λ (j : PacketTold). j.verdict) c.judged.view_is) ∙ sym (ap verdict_of c.in-P.is) in
    let old = verdicts_in c.args.made.now.items in
    let new = verdicts_in c.unlike_verdict.new.made.items in
    subst (λ o. IfOk c.unlike_verdict.result (λ found. IfNone found (old ≡ cons_option o new))) says
    c.unlike_verdict.ensures.same

pub returns-in-P-clause-other : goal.returns-in-P-clause-other
returns-in-P-clause-other c =
    let says = ap Some (ap (λ (j : PacketTold). j.verdict) c.judged.view_is) ∙ sym (ap verdict_of c.in-P.is) in
    let old = verdicts_in c.args.made.now.items in
    subst (λ o. IfOk c.unlike_verdict.result (λ found. IfSome found (λ own.
    IsOther o old (verdict_made own) × IfShort own))) says c.unlike_verdict.ensures.other

pub returns-in_default-clause-same : goal.returns-in_default-clause-same
returns-in_default-clause-same c =
    ap (λ o. cons_option o (verdicts_in c.args.made.now.items))
    (sym (no_verdict c.args.told.now.entry.now c.in_default.not-P))
