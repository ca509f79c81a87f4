use Rattle.std.proofs.Common.{◌≡◌, ◌+◌, ◌-◌, ◌++◌, ◌≤◌, slice_range, ap, ◌∙◌}
use Rattle.std.proofs.lemmas.Result.{IfOk-weaker}
use Rattle.pc_outside.proofs.Parts.{part-gained}
use Rattle.pc_outside.proofs.refilling.read_behind.Goals as goal

pub returns-clause-behind : goal.returns-clause-behind
returns-clause-behind g c =
    let at = c.args.to - c.args.from in
    let moved = c.move_to_start.new.octets.items in
    let now = c.read_between.new.octets.items in
    let held = slice_range c.args.octets.now.items c.args.from c.args.to in
    IfOk-weaker c.read_between.result (λ count. at + count ≤ at + c.args.most)
    (λ count. slice_range now 0 (at + count) ≡ held ++ slice_range now at (at + count))
    (λ count within. part-gained moved now at count c.read_between.ensures.before
    ∙ ap (λ before. before ++ slice_range now at (at + count)) c.move_to_start.ensures.moved)
    c.read_between.ensures.count
