use Rattle.gate_model.proofs.Following.{each_follows, open_are_active, commands_learnt, packets_judged}
use Rattle.gate_model.proofs.laws.each_version_follows.Goals as goal

pub returns : goal.returns
returns c = record {
  follows = each_follows;
  opened = open_are_active;
  learnt = commands_learnt;
  judged = packets_judged;
}
