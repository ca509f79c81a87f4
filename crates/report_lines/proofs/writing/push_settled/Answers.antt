use Rattle.std.proofs.Common.{◌≡◌, List, ℕ, [], ◌∷◌, refl, ◌∙◌}
use Rattle.std.specs.Prelude.{decimal}
use Rattle.report_lines.proofs.HeadLemmas.{all_in_head, led}
use Rattle.report_lines.proofs.writing.push_settled.Goals as goal

pub returns-clause-appended : goal.returns-clause-appended
returns-clause-appended c =
    let fields : List (List ℕ) = decimal c.args.slot ∷ decimal c.args.packet ∷ decimal c.args.command ∷ c.args.word.now ∷ decimal c.args.life ∷ [] in
    let is : c.put.new.self ≡ 72 ∷ led fields [] =
    rw (c.put.ensures, c.put_three.ensures.value, c.put_word.ensures, c.put_number.ensures.value, c.new-head.ensures) refl in
    all_in_head c.extend_from_slice.result 72 fields c.args.out.now c.as_slice.result.now c.extend_from_slice.new.self
    (c.as_slice.ensures ∙ is) c.extend_from_slice.ensures.appended
