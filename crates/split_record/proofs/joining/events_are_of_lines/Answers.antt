use Rattle.split_record.proofs.Joins.{events_are, counts_are}
use Rattle.split_record.proofs.joining.events_are_of_lines.Goals as goal

pub returns-clause-events : goal.returns-clause-events
returns-clause-events c = events_are

pub returns-clause-told : goal.returns-clause-told
returns-clause-told c = counts_are
