use Rattle.std.proofs.Common.{Some, None, option_copied, sym}
use Rattle.audit_core.specs.Meant.{line_told}
use Rattle.audit_core.proofs.ShareLemmas.{command_here}
use Rattle.audit_core.proofs.counts.one_command.Goals as goal

pub returns-in-Some-clause-value : goal.returns-in-Some-clause-value
returns-in-Some-clause-value c = λ slot it.
    command_here slot (line_told c.args.told.now) (option_copied (Some c.in-Some.field-0)) it.about (sym c.in-Some.ensures)

pub returns-in-None-clause-value : goal.returns-in-None-clause-value
returns-in-None-clause-value c = λ slot it.
    command_here slot (line_told c.args.told.now) None it.about (sym c.in-None.ensures)
