use Rattle.std.proofs.Common.{◌≡◌, ℕ, get_or, set, refl, ap, ◌∙◌, arith}
use Rattle.std.proofs.lemmas.List.{nil_from_length}
use Rattle.front_core.specs.declared.answers.SlotAnswers.{SlotAnswers}
use Rattle.front_core.proofs.Popping.{popped_none}
use Rattle.front_core.proofs.filling.next_reply.Goals as goal

pub returns : goal.returns
returns c =
    let own : SlotAnswers = c.index_mut-own.result.now in
    let after : SlotAnswers = record { replies = c.pop.new.self; packets = own.packets } in
    record {
      before = own;
      after = after;
      found = c.index_mut-own.ensures.value ∙ ap (λ (k : ℕ). get_or c.args.answers.now.items k own) c.slot.view_is;
      is = ap (λ (k : ℕ). set c.args.answers.now.items k after) c.slot.view_is;
      pops = record {
        items = c.pop.ensures.items;
        none = λ is.
            let len : own.replies.len ≡ 0 = popped_none c.pop.result own.replies.len c.pop.new.self.len c.pop.ensures.cases is in
            let count = own.replies.ok.0 in
            nil_from_length own.replies.items (omega (arith, len, count));
      };
      same = refl;
    }
