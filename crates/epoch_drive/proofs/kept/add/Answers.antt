use Rattle.std.proofs.Common.{refl}
use Rattle.epoch_drive.proofs.kept.add.Goals as goal

pub returns : goal.returns
returns c = record {
  ask = c.ask_of.result;
  asked_so = c.ask_of.ensures;
  asks = c.in_ok-push.ensures.items;
  lines = c.in_ok-push-2.ensures.items;
  octets = refl;
  bounds = refl;
}
