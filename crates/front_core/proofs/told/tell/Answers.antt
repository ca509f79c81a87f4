use Rattle.std.proofs.Common.{◌≡◌, ap, ◌∙◌}
use Rattle.std.specs.Prelude.{reverse}
use Rattle.std.proofs.lemmas.List.{reverse-reverse}
use Rattle.std.proofs.lemmas.Result.{on_ok_weaker}
use Rattle.front_core.specs.declared.answers.SlotAnswers.{SlotAnswers}
use Rattle.front_core.proofs.told.tell.Goals as goal

pub returns : goal.returns
returns c =
    let answer : SlotAnswers = record { replies = c.reverse.new.self; packets = c.reverse-2.new.self } in
    let replies : reverse c.reverse.new.self.items ≡ c.args.replies.items =
    ap reverse c.reverse.ensures.items ∙ reverse-reverse c.args.replies.items in
    let packets : reverse c.reverse-2.new.self.items ≡ c.args.packets.items =
    ap reverse c.reverse-2.ensures.items ∙ reverse-reverse c.args.packets.items in
    on_ok_weaker c.add_rows.result (λ rows. record {
      answer = answer;
      answers = c.in_ok-push.ensures.items;
      answered = λ i. (replies i, packets i);
      effects = c.in_ok-add_effects.ensures;
      rows = rows;
    }) c.add_rows.ensures
