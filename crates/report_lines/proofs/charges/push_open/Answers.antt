use Rattle.std.proofs.Common.{◌≡◌, [], ◌∷◌, refl, subst, ◌∙◌}
use Rattle.charging_book.specs.Rows.{Counters}
use Rattle.report_lines.proofs.HeadLemmas.{two_heads, led, piece_fields, count_fields}
use Rattle.report_lines.proofs.charges.push_open.Goals as goal

pub returns-clause-appended : goal.returns-clause-appended
returns-clause-appended c =
    let counters = c.args.counters.now in
    let slot = c.args.slot in
    let is : c.put.new.self ≡ 79 ∷ led (piece_fields slot counters) [] =
    subst (λ (told : Counters). c.put.new.self ≡ 79 ∷ led (piece_fields slot told) []) c.counters.view_is
    (rw (c.put.ensures, c.put_piece.ensures.value, c.new-piece.ensures) refl) in
    let also : c.put_four.new.head ≡ led (count_fields counters []) [] =
    subst (λ (told : Counters). c.put_four.new.head ≡ led (count_fields told []) []) c.counters.view_is
    (rw (c.put_four.ensures.value, c.new-counts.ensures) refl) in
    two_heads c.push_parts.result 79 (piece_fields slot counters) (count_fields counters []) c.args.out.now
    c.as_slice.result.now c.as_slice-2.result.now c.push_parts.new.self (c.as_slice.ensures ∙ is)
    (c.as_slice-2.ensures ∙ also) c.push_parts.ensures.appended
