use Rattle.std.proofs.Common.{◌∙◌, Some, sym, ap}
use Rattle.lawful_run.specs.Telling.{commands_told}
use Rattle.report_lines.specs.Records.{PacketTold}
use Rattle.audit_core.proofs.ShareLemmas.{no_count, own_told}
use Rattle.audit_core.proofs.counts.count_told.Goals as goal

pub returns-in-P : goal.returns-in-P
returns-in-P c = λ slot now is it.
    ap Some (ap (λ (j : PacketTold). j.commands) c.judged.view_is)
    ∙ sym (ap (commands_told slot) c.in-P.is ∙ own_told slot now c.in-P.judged (is ∙ c.in-P.is) it)

pub returns-in_default : goal.returns-in_default
returns-in_default c = λ slot now is it. sym (no_count slot c.args.entry.now c.in_default.not-P)
