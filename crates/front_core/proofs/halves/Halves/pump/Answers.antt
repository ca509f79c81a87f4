use Rattle.std.proofs.Common.{refl}
use Rattle.front_core.proofs.Setting.{sides_settle}
use Rattle.front_core.proofs.halves.Halves.pump.Goals as goal

pub returns-clause-pumps : goal.returns-clause-pumps
returns-clause-pumps g c = record {
  settles = sides_settle c.args.self.now _ c.pump.ensures.settles refl refl;
  controls = c.pump.ensures.controls;
  datas = c.pump.ensures.datas;
}
