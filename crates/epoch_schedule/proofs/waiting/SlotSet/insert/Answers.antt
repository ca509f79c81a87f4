use Rattle.std.proofs.Common.{◌≡◌, ℕ, ◌==◌, ◌||◌, List, subst}
use Rattle.epoch_schedule.specs.Waiting.{is_in}
use Rattle.epoch_schedule.proofs.SlotSets.{inserted_key}
use Rattle.epoch_schedule.proofs.waiting.SlotSet.insert.Goals as goal

pub returns : goal.returns
returns c =
    subst (λ (old : List ℕ). (s : ℕ) → is_in c.insert.new.self.keys s ≡ ((c.args.slot == s) || is_in old s)) c.self.view_is
    (inserted_key c.self.inside.slots.keys c.insert.new.self.keys c.args.slot c.in_ok-insert.ensures.updates.0)
