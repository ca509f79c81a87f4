-- Lists of which a first part was sent.
use Rattle.std.proofs.Common.{◌≡◌, List, [], ◌∷◌, ◌++◌, refl, sym, ap, ◌∙◌}
use Rattle.migration.specs.DataQueues.{Shortens}

sent_more : {I : Type 0} (a b c : List I) → (a ++ b) ++ c ≡ a ++ (b ++ c)
sent_more [] b c = refl
sent_more (x ∷ a) b c = ap (λ l. x ∷ l) (sent_more a b c)

pub shortens_then : {I : Type 0} (a b c : List I) → Shortens a b → Shortens b c → Shortens a c
shortens_then a b c first then = (
  first.0 ++ then.0,
  first.1 ∙ ap (λ l. first.0 ++ l) then.1 ∙ sym (sent_more first.0 then.0 c),
)

pub shortens_same : {I : Type 0} (a b : List I) → b ≡ a → Shortens a b
shortens_same a b same = ([], sym same)

pub shortens_first : {I : Type 0} (queue left rest : List I) (x : I) → Shortens queue left → left ≡ x ∷ rest
    → Shortens queue rest
shortens_first queue left rest x before first = shortens_then queue left rest before (x ∷ [], first)
