use Rattle.std.proofs.Common.{◌≡◌, subst}
use Rattle.std.specs.Bool.{OnTrue}
use Rattle.std.proofs.lemmas.Bool.{OnTrue_from}
use Rattle.epoch_schedule.specs.Halves.{learn_one}
use Rattle.epoch_schedule.proofs.Spared.{none_learnt}
use Rattle.epoch_schedule.proofs.slot.SlotNumbers.has_learnt.Goals as goal

pub returns : goal.returns
returns c =
    let slot = c.args.self.now in
    OnTrue_from _ _ (λ is.
    none_learnt slot (subst (λ test. OnTrue test (learn_one slot ≡ slot)) is c.is_stuck.ensures))
