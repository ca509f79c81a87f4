use Rattle.std.proofs.Common.{◌≡◌, ℕ, ◌==◌, ◌&&◌, not, List, subst}
use Rattle.epoch_schedule.specs.Waiting.{is_in}
use Rattle.epoch_schedule.proofs.SlotSets.{removed_key}
use Rattle.epoch_schedule.proofs.waiting.SlotSet.remove.Goals as goal

pub returns : goal.returns
returns c =
    subst (λ (old : List ℕ). (s : ℕ) → is_in c.remove.new.self.keys s ≡ (not (c.args.slot == s) && is_in old s))
    c.self.view_is
    (removed_key c.self.inside.slots.keys c.remove.new.self.keys c.args.slot c.remove.ensures.updates.0)
