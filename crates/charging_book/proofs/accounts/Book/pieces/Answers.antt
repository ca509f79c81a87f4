use Rattle.std.proofs.Common.{sym, ◌∙◌, subst}
use Rattle.charging_book.specs.Accounts.{AreCounting, AreDistinct}
use Rattle.charging_book.proofs.PartLemmas.{lives_in, implied, kept_parts}
use Rattle.charging_book.proofs.accounts.Book.pieces.Goals as goal

pub returns-clause-parts : goal.returns-clause-parts
returns-clause-parts c =
    implied c.pieces_of.result _ _ c.pieces_of.ensures.counts (λ pieces counts.
    kept_parts pieces.items
    (subst (λ opens. AreDistinct (lives_in opens)) (sym (counts ∙ c.deref.ensures.value)) c.self.invariant.2)
    (subst AreCounting (sym (counts ∙ c.deref.ensures.value)) c.self.invariant.1))
