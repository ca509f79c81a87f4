use Rattle.std.proofs.Common.{◌≡◌, List, ℕ, [], ◌∷◌, refl, ◌∙◌}
use Rattle.std.specs.Prelude.{decimal}
use Rattle.report_lines.proofs.HeadLemmas.{all_in_head, led}
use Rattle.report_lines.proofs.heads.push_word.Goals as goal

pub returns-clause-appended : goal.returns-clause-appended
returns-clause-appended c =
    let packet = c.args.packet in
    let fields : List (List ℕ) =
    decimal packet.line ∷ decimal packet.slot ∷ decimal packet.number ∷ decimal packet.commands
    ∷ c.args.word.now ∷ [] in
    let is : c.put_counts.new.head ≡ 80 ∷ led fields [] =
    rw (c.put_counts.ensures, c.put_word.ensures, c.new-head.ensures) refl in
    all_in_head c.extend_from_slice.result 80 fields c.args.out.now c.as_slice.result.now c.extend_from_slice.new.self
    (c.as_slice.ensures ∙ is) c.extend_from_slice.ensures.appended
