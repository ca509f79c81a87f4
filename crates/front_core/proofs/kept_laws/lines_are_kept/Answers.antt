use Rattle.front_core.proofs.Keeps.{no_line, kept_noted, kept_moved, kept_command, kept_packet}
use Rattle.front_core.proofs.kept_laws.lines_are_kept.Goals as goal

pub returns-clause-none : goal.returns-clause-none
returns-clause-none c = no_line

pub returns-clause-noted : goal.returns-clause-noted
returns-clause-noted c = kept_noted

pub returns-clause-moved : goal.returns-clause-moved
returns-clause-moved c = kept_moved

pub returns-clause-command : goal.returns-clause-command
returns-clause-command c = kept_command

pub returns-clause-packet : goal.returns-clause-packet
returns-clause-packet c = kept_packet
