-- What a Create Session Request asks for, as the command that it is.
use Rattle.control_steps.specs.declared.creating.Creation.{Creation}
use Rattle.control_steps.specs.declared.command.CommandKind.{CommandKind}
use Rattle.control_steps.specs.declared.command.CommandKind.TheVariants.{Create}

abbrev pub creation : Creation → CommandKind
creation asked = Create asked.seq asked.mme asked.pdn asked.ebi asked.qos asked.enb asked.up asked.down
