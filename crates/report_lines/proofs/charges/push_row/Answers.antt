use Rattle.std.proofs.Common.{◌≡◌, [], ◌∷◌, refl, subst, ◌∙◌}
use Rattle.charging_book.specs.Rows.{Charged}
use Rattle.report_lines.specs.Text.{counters_of, ending}
use Rattle.report_lines.proofs.HeadLemmas.{two_heads, led, piece_fields, count_fields}
use Rattle.report_lines.proofs.charges.push_row.Goals as goal

pub returns-clause-appended : goal.returns-clause-appended
returns-clause-appended c =
    let row = c.args.row.now in
    let slot = c.args.slot in
    let is : c.put.new.self ≡ 82 ∷ led (piece_fields slot (counters_of row)) [] =
    subst (λ (told : Charged). c.put.new.self ≡ 82 ∷ led (piece_fields slot (counters_of told)) []) c.row.view_is
    (rw (c.put.ensures, c.put_piece.ensures.value, c.new-piece.ensures) refl) in
    let also : c.put_four.new.head ≡ led (count_fields (counters_of row) (ending row)) [] =
    subst (λ (told : Charged). c.put_four.new.head ≡ led (count_fields (counters_of told) (ending told)) [])
    c.row.view_is
    (rw (c.put_four.ensures.value, c.put_ending.ensures.value, c.new-counts.ensures) refl) in
    two_heads c.push_parts.result 82 (piece_fields slot (counters_of row)) (count_fields (counters_of row) (ending row))
    c.args.out.now c.as_slice.result.now c.as_slice-2.result.now c.push_parts.new.self (c.as_slice.ensures ∙ is)
    (c.as_slice-2.ensures ∙ also) c.push_parts.ensures.appended
