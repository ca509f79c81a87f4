use Rattle.std.proofs.Common.{◌∙◌, Some}
use Rattle.report_lines.specs.declared.entry.Entry.TheVariants.{Line}
use Rattle.audit_core.specs.Gateway.{reply_due}
use Rattle.audit_core.specs.Played.{reply_made}
use Rattle.audit_core.specs.Telling.{tells, tells_said}
use Rattle.audit_core.proofs.TellLemmas.{tells_is}
use Rattle.audit_core.proofs.WhyFound.{ok_by}
use Rattle.audit_core.proofs.replies.reply_differs.Goals as goal

pub returns : goal.returns
returns c =
    let entry = c.args.entry.now in
    ok_by (tells_said (Some c.in_ok-said.said) c.in_ok-due.due)
    (tells (Some (Line entry)) (reply_due entry (reply_made c.args.own.now))) c.tells.result c.tells.ensures
    ((λ j. tells_said (Some (c.in_ok-said.ensures j)) (c.in_ok-due.ensures j))
    ∙ tells_is (Some (Line entry)) (reply_due entry (reply_made c.args.own.now)))
