use Rattle.std.proofs.Common.{◌≡◌, ◌∙◌, ap, refl, sym, subst}
use Rattle.audit_core.specs.Pieces.{FoundTo}
use Rattle.audit_core.specs.Agreeing.{lent}
use Rattle.audit_core.specs.Entries.{opens_told}
use Rattle.audit_core.specs.declared.sentence.Sentence.TheVariants as of
use Rattle.audit_core.proofs.PieceSteps.{open_none, open_some, to_step}
use Rattle.audit_core.proofs.piece.opens_found.Goals as goal

pub returns : goal.returns
returns c = λ own entries_are due_is to.
    let told = lent c.as_slice.result.now in
    let told_is : told ≡ opens_told own.entries =
    ap lent c.as_slice.ensures.value ∙ c.in_ok-told.ensures ∙ ap opens_told entries_are in
    subst (FoundTo own 9) (sym c.found_behind.ensures)
    (to_step own 8 c.args.found of.Opens c.in_ok-place.place refl
    (open_some own c.in_ok-place.place told c.args.due.now told_is due_is c.in_ok-place.ensures.some)
    (λ before. open_none own c.in_ok-place.place told c.args.due.now told_is due_is c.in_ok-place.ensures.none) to)
