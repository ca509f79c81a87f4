use Rattle.std.proofs.Common.{◌≡◌, [], sym, ap, append-nil}
use Rattle.std.specs.Prelude.{reverse}
use Rattle.slot_execution.specs.Replaying.{effects_told, rows_told}
use Rattle.front_core.specs.declared.answers.SlotAnswers.{SlotAnswers}
use Rattle.front_core.proofs.told.tell_nothing.Goals as goal

pub returns : goal.returns
returns c =
    let answer : SlotAnswers = record { replies = c.new.result; packets = c.new-2.result } in
    let replies : reverse c.new.result.items ≡ [] = ap reverse c.new.ensures.items in
    let packets : reverse c.new-2.result.items ≡ [] = ap reverse c.new-2.ensures.items in
    record {
      answer = answer;
      answers = c.in_ok-push.ensures.items;
      answered = λ i. (replies i, packets i);
      effects = sym (append-nil (effects_told c.args.told.now.effects.items));
      rows = sym (append-nil (rows_told c.args.told.now.rows.items));
    }
