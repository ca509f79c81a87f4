use Rattle.std.proofs.Common.{◌≡◌, ◌+◌, slice_range, ap, sym, ◌∙◌, drop, arith}
use Rattle.pc_outside.proofs.Parts.{part-behind}
use Rattle.pc_outside.proofs.line_buffer.LineBuf.give.Goals as goal

pub returns-clause-buffered : goal.returns-clause-buffered
returns-clause-buffered c =
    let items = c.self.inside.octets.items in
    let from = c.self.inside.from in
    let to = c.self.inside.to in
    let len = c.args.len in
    let next : from + len + 1 ≡ from + (len + 1) = omega arith in
    ap (λ place. slice_range items place to) next ∙ sym (part-behind items from to (len + 1))
    ∙ ap (λ held. drop (len + 1) held.buffered) c.self.view_is
