use Rattle.replay_command.proofs.ApartLemmas.{none_first}
use Rattle.replay_command.proofs.reader.ahead.Goals as goal

pub returns-then-not-behind_line : goal.returns-then-not-behind_line
returns-then-not-behind_line g c = none_first _ c.args.octets.now c.none_read.ensures

pub returns-in-Err : goal.returns-in-Err
returns-in-Err g c = none_first _ c.args.octets.now c.none_read-in-Err.ensures
