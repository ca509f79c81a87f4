use Rattle.std.proofs.Common.{◌≡◌, ℕ, ◌≤◌, true, List, subst}
use Rattle.epoch_schedule.specs.Waiting.{is_in}
use Rattle.epoch_schedule.proofs.SlotSets.{first_from, none_from}
use Rattle.epoch_schedule.proofs.waiting.SlotSet.first_from.Goals as goal

pub returns-in-Some-clause-own : goal.returns-in-Some-clause-own
returns-in-Some-clause-own c =
    let first = first_from c.self.inside.slots c.range.result _ c.args.from _ (c.range.ensures.in_range tt)
    c.in-Some.ensures.steps in
    (first.above, subst (λ (set : List ℕ). is_in set c.in-Some.slot.now ≡ true) c.self.view_is first.own)

pub returns-in-Some-clause-least : goal.returns-in-Some-clause-least
returns-in-Some-clause-least c =
    subst (λ (set : List ℕ). (s : ℕ) → c.args.from ≤ s → is_in set s ≡ true → c.in-Some.slot.now ≤ s) c.self.view_is
    (first_from c.self.inside.slots c.range.result _ c.args.from _ (c.range.ensures.in_range tt)
    c.in-Some.ensures.steps).least

pub returns-in-None-clause-none : goal.returns-in-None-clause-none
returns-in-None-clause-none c =
    subst (λ (set : List ℕ). (s : ℕ) → c.args.from ≤ s → is_in set s ≡ true → ⊥) c.self.view_is
    (none_from c.self.inside.slots c.range.result c.args.from (c.range.ensures.in_range tt) c.in-None.ensures.steps.0)
