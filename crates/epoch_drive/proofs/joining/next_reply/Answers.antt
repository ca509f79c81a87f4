use Rattle.std.proofs.Common.{ℕ, get_or, set, refl, ap, ◌∙◌}
use Rattle.epoch_drive.specs.declared.replays.SlotReplays.{SlotReplays}
use Rattle.epoch_drive.proofs.joining.next_reply.Goals as goal

pub returns : goal.returns
returns c =
    let own : SlotReplays = c.index_mut-own.result.now in
    let after : SlotReplays = record { replies = c.pop_front.new.self; packets = own.packets } in
    record {
      before = own;
      after = after;
      found = c.index_mut-own.ensures.value ∙ ap (λ (k : ℕ). get_or c.args.answers.now.items k own) c.slot.view_is;
      is = ap (λ (k : ℕ). set c.args.answers.now.items k after) c.slot.view_is;
      first = c.pop_front.ensures.items;
      rest = c.pop_front.ensures.rest;
      same = refl;
    }
