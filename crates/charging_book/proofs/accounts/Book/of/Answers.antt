use Rattle.std.proofs.Common.{sym, ◌∙◌, subst}
use Rattle.charging_book.specs.Accounts.{AreCounting, AreDistinct}
use Rattle.charging_book.proofs.PartLemmas.{lives_in, parts_counting, parts_distinct}
use Rattle.charging_book.proofs.accounts.Book.of.Goals as goal

pub invariant_of-result : goal.invariant_of-result
invariant_of-result c =
    let fine = sym c.are_parts.ensures ∙ c.if-not-are_parts.false in (
      c.in_ok-spans_of.ensures.len ∙ sym c.in_ok-opens_of.ensures.len,
      subst AreCounting (sym c.in_ok-opens_of.ensures.items) (parts_counting c.args.pieces.now fine),
      subst (λ opens. AreDistinct (lives_in opens)) (sym c.in_ok-opens_of.ensures.items)
          (parts_distinct c.args.pieces.now fine),
    )
