use Rattle.std.proofs.Common.{◌≡◌, ◌+◌, ◌-◌, ◌≤◌, length, take, drop, min, ap, ◌∙◌, arith, length-append, length-drop, length-take}
use Rattle.std.proofs.lemmas.List.{drop_all, take_rest}
use Rattle.pc_outside.proofs.Rests.{prefix_and_rest}
use Rattle.pc_outside.proofs.memory.MemSourceSource.read.Goals as goal

pub returns-clause-octets : goal.returns-clause-octets
returns-clause-octets c =
    let octets = c.self.inside.octets.items in
    let from = c.self.inside.from in
    let n = c.min-count.result in
    let left : take (length c.deref-2.result.now - from) (drop from c.deref-2.result.now) ≡ drop from octets =
    take_rest c.deref-2.result.now from ∙ ap (drop from) c.deref-2.ensures.value in
    let count : n ≡ min c.min.result (length (drop from octets)) = c.min-count.ensures
    ∙ ap (λ xs. min c.min.result (length xs)) left in
    let within : n ≤ length octets - from = omega (arith, length-drop from octets) in (
      rw (← c.self.view_is) (prefix_and_rest octets c.copy_from_slice.new.self (drop n c.args.into.now) from n
          (c.copy_from_slice.ensures.after ∙ ap (take n) left) within),
      λ none some. drop_all (from + n) octets
          (omega (
            arith,
            length-drop from octets,
            length-append c.copy_from_slice.new.self (drop n c.args.into.now),
            length-drop n c.args.into.now,
            ap length c.copy_from_slice.ensures.after,
            length-take n (take (length c.deref-2.result.now - from) (drop from c.deref-2.result.now)),
          )),
    )
