-- The last of a list is the first one of the list turned round.
use Rattle.std.proofs.Common.{◌≡◌, ℕ, ◌+◌, true≢false, is_some, List, [], ◌∷◌, ◌++◌, drop, refl, sym, ap, ◌∙◌, append-nil}
use Rattle.std.specs.Prelude.{MatchOption, Option, Some, None, option_to_list, reverse}
use Rattle.std.proofs.lemmas.List.{reverse-append}

alone : {X : Type 0} (it : Option X) → reverse (option_to_list it) ≡ option_to_list it
alone None = refl
alone (Some x) = refl

-- none was taken of a list that has none
pub popped_none : {X : Type 0} (next : Option X) (before after : ℕ)
    → MatchOption next ((before ≡ 0) × (after ≡ 0)) (λ x. after + 1 ≡ before) → next ≡ None → before ≡ 0
popped_none None before after cases none = cases.0
popped_none (Some x) before after cases none = absurd (true≢false (ap is_some none))

pub popped : {X : Type 0} (before after : List X) (next : Option X) → before ≡ after ++ option_to_list next
    → reverse before ≡ option_to_list next ++ reverse after
popped before after next is =
    ap reverse is ∙ reverse-append after (option_to_list next)
    ∙ ap (λ (l : List _). l ++ reverse after) (alone next)

pub popped_some : {X : Type 0} (before after : List X) (x : X) → before ≡ after ++ x ∷ []
    → reverse before ≡ x ∷ reverse after
popped_some before after x is = popped before after (Some x) is

pub popped_rest : {X : Type 0} (before after : List X) (next : Option X) → before ≡ after ++ option_to_list next
    → (next ≡ None → before ≡ []) → reverse after ≡ drop 1 (reverse before)
popped_rest before after None is none =
    let nothing : before ≡ [] = none refl in
    let left : after ≡ [] = sym (append-nil after) ∙ sym is ∙ nothing in
    ap reverse left ∙ sym (ap (λ (l : List _). drop 1 (reverse l)) nothing)
popped_rest before after (Some x) is none = sym (ap (drop 1) (popped before after (Some x) is))
