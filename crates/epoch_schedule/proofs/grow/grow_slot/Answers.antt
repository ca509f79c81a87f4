use Rattle.std.proofs.Common.{rules, ◌≡◌, length, take, [], ◌∷◌, ◌++◌, sym, ap, subst, ◌∙◌, arith}
use Rattle.std.proofs.lemmas.List.{take_all}
use Rattle.epoch_schedule.specs.Slots.{fresh_slot}
use Rattle.epoch_schedule.proofs.Grown.{Grows, grows_calls, grows_more, grows_none, reached}
use Rattle.epoch_schedule.proofs.grow.grow_slot.Goals as goal

pub returns : goal.returns
returns c =
    let old = c.args.slots.now.items in
    let now = c.resize_with.new.self.items in
    let long : length now ≡ c.args.slot = search rules in
    let grown : Grows fresh_slot old now c.args.slot =
    grows_calls _ fresh_slot old (take c.args.slot old) now _ c.args.slot (λ p x q made. search rules)
    c.in_ok-resize_with.ensures.items (omega (arith, long))
    (subst (λ zs. Grows fresh_slot old zs c.args.slot) (sym (take_all c.args.slot old (search rules)))
    (grows_none fresh_slot old c.args.slot)) in
    reached _ _ _ _ (search rules)
    (grows_more _ _ now _ _ (omega (arith, long))
    (c.in_ok-push.ensures.items ∙ ap (λ x. now ++ x ∷ []) c.new.ensures) grown)
