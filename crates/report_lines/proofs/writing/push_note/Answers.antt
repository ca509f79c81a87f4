use Rattle.std.proofs.Common.{◌≡◌, List, ℕ, [], ◌∷◌, refl, ◌∙◌}
use Rattle.std.specs.Prelude.{decimal}
use Rattle.report_lines.proofs.HeadLemmas.{headed, led}
use Rattle.report_lines.proofs.writing.push_note.Goals as goal

pub returns-clause-appended : goal.returns-clause-appended
returns-clause-appended c =
    let fields : List (List ℕ) = decimal c.args.line ∷ [] in
    let is : c.put-2.new.self ≡ 78 ∷ led fields (32 ∷ []) =
    rw (c.put-2.ensures, c.put_number.ensures.value, c.put.ensures, c.new-head.ensures) refl in
    headed c.push_parts.result 78 fields c.args.out.now c.as_slice.result.now [] c.args.note.now c.args.note.now
    c.push_parts.new.self (c.as_slice.ensures ∙ is) refl c.push_parts.ensures.appended
