use Rattle.std.proofs.Common.{◌+◌, ◌-◌, ◌++◌, slice_range, ap, sym, ◌∙◌, arith}
use Rattle.std.proofs.lemmas.List.Edits.{length-between}
use Rattle.pc_outside.proofs.line_buffer.LineBuf.refill.Goals as goal

pub returns-clause-gains : goal.returns-clause-gains
returns-clause-gains g c =
    let at = c.self.inside.to - c.self.inside.from in
    let count = c.in_ok-count.count in
    let now = c.read_behind.new.octets.items in
    record {
      given = slice_range now at (at + count);
      buffered = c.in_ok-count.ensures.behind
          ∙ ap (λ held. held.buffered ++ slice_range now at (at + count)) c.self.view_is;
      consumed = c.in_ok-count.ensures.given;
      counted = length-between now at (at + count) (omega (
        arith,
        c.in_ok-count.ensures.count,
        c.in_ok-count.ensures.len,
      )) ∙ omega arith;
      room = rw (← c.self.view_is) (omega arith);
      line = sym c.requires.no_line;
      last = ap (λ held. held.last) c.self.view_is;
    }
