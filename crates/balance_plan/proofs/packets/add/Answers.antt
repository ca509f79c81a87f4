use Rattle.std.proofs.Common.{◌≡◌, ◌<◌, arith, get_or, length, ap, ◌∙◌}
use Rattle.std.proofs.lemmas.List.{get_or_read}
use Rattle.balance_plan.proofs.PacketLemmas.{room_for}
use Rattle.balance_plan.proofs.packets.add.Goals as goal

pub overflow_add-index_mut : goal.overflow_add-index_mut
overflow_add-index_mut c =
    let slot = c.slot-item.result in
    let same : c.slot.inside.0 ≡ slot = c.slot.view_is in
    let there : c.slot.inside.0 < length c.loop-slot.counts.items = omega arith in
    let within : slot < length c.args.counts.now.items = omega (arith, same, there, c.loop-slot.invariant.many) in
    let read = get_or_read c.loop-slot.counts.items c.slot.inside.0 c.index_mut.result.now there
    c.index_mut.ensures.value 0 ∙ ap (λ k. get_or c.loop-slot.counts.items k 0) same in
    omega (
      arith,
      read,
      c.requires.room slot within,
      c.loop-slot.invariant.each slot within,
      room_for c.args.slots.now c.loop-slot.slot-index slot c.loop-slot-test.true c.slot-item.is,
    )
