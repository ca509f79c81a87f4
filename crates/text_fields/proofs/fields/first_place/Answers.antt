use Rattle.std.proofs.Common.{refl, arith}
use Rattle.text_fields.proofs.PlaceLemmas.{place_found}
use Rattle.text_fields.proofs.fields.first_place.Goals as goal

pub returns-then-here-ne0 : goal.returns-then-here-ne0
returns-then-here-ne0 c =
    place_found c.args.at c.args.text.now _ _ (omega arith) refl (λ none. c.if-here-ne0.true none) refl
