use Rattle.std.proofs.Common.{rules, ◌≡◌, ◌<◌, length, get_or, subst, ◌∙◌}
use Rattle.std.specs.Bool.{OnTrue}
use Rattle.std.proofs.lemmas.Bool.{OnTrue_from}
use Rattle.epoch_schedule.specs.Slots.{SlotNow, fresh_slot}
use Rattle.epoch_schedule.specs.Halves.{learn}
use Rattle.epoch_schedule.specs.World.{slot_at}
use Rattle.epoch_schedule.specs.Worlds.{world_of}
use Rattle.epoch_schedule.proofs.Grown.{value-within}
use Rattle.epoch_schedule.proofs.Spared.{learns_none}
use Rattle.epoch_schedule.proofs.world.has_learnt.Goals as goal

pub returns-then-slot-len : goal.returns-then-slot-len
returns-then-slot-len c =
    let world = world_of c.args.numbers.now in
    let one = c.index-one.result.now in
    let within : c.args.slot < length world.slots = search rules in
    let here : one ≡ get_or world.slots c.args.slot one = search rules in
    let own : one ≡ slot_at world c.args.slot = here ∙ value-within fresh_slot one world.slots c.args.slot within in
    OnTrue_from _ _ (λ is.
    learns_none world c.args.slot within
    (subst (λ (slot : SlotNow). learn slot ≡ slot) own
    (subst (λ test. OnTrue test (learn one ≡ one)) is c.has_learnt.ensures)))
