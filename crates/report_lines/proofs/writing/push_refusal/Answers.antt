use Rattle.std.proofs.Common.{◌≡◌, List, ℕ, [], ◌∷◌, refl, ◌∙◌}
use Rattle.std.specs.Prelude.{decimal}
use Rattle.report_lines.specs.Words.{refused_word}
use Rattle.report_lines.proofs.HeadLemmas.{all_in_head, led}
use Rattle.report_lines.proofs.writing.push_refusal.Goals as goal

pub returns-clause-appended : goal.returns-clause-appended
returns-clause-appended c =
    let fields : List (List ℕ) = decimal c.args.line ∷ decimal c.args.slot ∷ refused_word c.args.packet ∷ [] in
    let is : c.put_refusal.new.head ≡ 70 ∷ led fields [] = rw (c.put_refusal.ensures, c.new-head.ensures) refl in
    all_in_head c.extend_from_slice.result 70 fields c.args.out.now c.as_slice.result.now c.extend_from_slice.new.self
    (c.as_slice.ensures ∙ is) c.extend_from_slice.ensures.appended
