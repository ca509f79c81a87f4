-- What a Create Bearer Response says, as the command that it is.
use Rattle.control_steps.specs.declared.granting.Response.{Response}
use Rattle.control_steps.specs.declared.command.CommandKind.{CommandKind}
use Rattle.control_steps.specs.declared.command.CommandKind.TheVariants.{CreateAns}

abbrev pub response : Response → CommandKind
response said = CreateAns said.seq said.cause said.ebi said.row_cause said.enb
