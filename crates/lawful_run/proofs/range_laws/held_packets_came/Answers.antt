use Rattle.lawful_run.proofs.HeldCame.{held_came}
use Rattle.lawful_run.proofs.range_laws.held_packets_came.Goals as goal

pub returns : goal.returns
returns c = held_came
