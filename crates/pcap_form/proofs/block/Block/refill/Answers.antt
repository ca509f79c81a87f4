use Rattle.std.proofs.Common.{◌+◌, ◌-◌, ◌++◌, slice_range, ap, ◌∙◌, arith}
use Rattle.pcap_form.proofs.block.Block.refill.Goals as goal

pub returns-clause-gains : goal.returns-clause-gains
returns-clause-gains g c =
    let at = c.self.inside.to - c.self.inside.from in
    let now = c.read_behind.new.octets.items in
    record {
      given = slice_range now at (at + c.in_ok-count.count);
      held = c.in_ok-count.ensures.behind
          ∙ ap (λ ahead. ahead.held ++ slice_range now at (at + c.in_ok-count.count)) c.self.view_is;
      consumed = c.in_ok-count.ensures.given;
      room = rw (← c.self.view_is) (omega arith);
    }
