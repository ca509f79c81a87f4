use Rattle.std.proofs.Common.{◌≡◌, ℕ, ◌-◌, length, ap, ◌∙◌, arith}
use Rattle.std.proofs.lemmas.Result.{on_ok_weaker}
use Rattle.epoch_schedule.specs.Slots.{SlotNow}
use Rattle.epoch_schedule.specs.Parts.{met_behind}
use Rattle.epoch_schedule.proofs.Batches.{closed_met}
use Rattle.epoch_schedule.proofs.slot.SlotNumbers.close.Goals as goal

pub returns : goal.returns
returns c =
    let own = c.self.inside in
    let now : SlotNow = c.args.self.now in
    let count : ℕ = c.saturating_sub-rest.result in
    let packets : length own.packets ≡ length now.packets = ap (λ (slot : SlotNow). length slot.packets) c.self.view_is in
    let handled : length own.met ≡ length now.met = ap (λ (slot : SlotNow). length slot.met) c.self.view_is in
    let rest : count ≡ length now.packets - length now.met =
    omega (arith, c.saturating_sub-rest.ensures, c.len.ensures, c.len-2.ensures, packets, handled) in
    on_ok_weaker c.close_rest.result (λ met.
    met ∙ ap (λ commands. met_behind commands own.learnt own.met count) c.as_slice.ensures.value
    ∙ ap (λ (slot : SlotNow). met_behind slot.commands slot.learnt slot.met count) c.self.view_is
    ∙ closed_met now count rest) c.close_rest.ensures
