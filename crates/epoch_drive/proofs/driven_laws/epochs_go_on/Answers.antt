use Rattle.std.proofs.Common.{refl}
use Rattle.epoch_drive.proofs.driven_laws.epochs_go_on.Goals as goal

pub returns : goal.returns
returns c = record {
  turns = λ rooms bounds now later slots first before made epochs told others are. are;
  moved = λ bounds slice later text. refl;
  unmoved = λ bounds slice text. refl;
}
