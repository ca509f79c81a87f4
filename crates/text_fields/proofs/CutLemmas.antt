-- A text, cut at its first octet of a kind.
use Rattle.std.proofs.Common.{◌≡◌, ℕ, ◌+◌, ◌<◌, Bool, true, false, ◌==◌, List, [], ◌∷◌, length, get_or, refl, ap, ◌∙◌, arith, take, drop, Some, None}
use Rattle.std.proofs.lemmas.List.Sums.{position_or_len_is}
use Rattle.std.proofs.lemmas.List.Splits.{slice_split_first, slice_split_none}
use Rattle.std.proofs.lemmas.Grind.{common_steps}
use Rattle.std.specs.List.{slice_split, position_or_len}
use Rattle.memchr.specs.Find.{IsFirstByte, is_byte}

not_true : (b : Bool) → (b ≡ true → ⊥) → b ≡ false
not_true true = λ no. absurd (no refl)
not_true false = λ no. refl

pub cut_found : (at : ℕ) (text : List ℕ) (place : ℕ) → IsFirstByte (is_byte at) text (Some place)
    → slice_split (λ octet. octet == at) text ≡ take place text
    ∷ slice_split (λ octet. octet == at) (drop (place + 1) text)
cut_found at text place found =
    let there : position_or_len (λ octet. octet == at) text ≡ place =
    position_or_len_is (λ octet. octet == at) text place 0 (omega (arith, found.0.high))
    (λ k before. not_true _ (found.0.before k (omega arith) before)) (λ _. found.1)
    in
    let inside : position_or_len (λ octet. octet == at) text < length text = rw there found.0.high in
    slice_split_first (λ octet. octet == at) text 0 inside
    ∙ ap (λ k. take k text ∷ slice_split (λ octet. octet == at) (drop (k + 1) text)) there

pub get_or-default : (xs : List ℕ) (k d : ℕ) → k < length xs → get_or xs k d ≡ get_or xs k 0
get_or-default xs k d inside = grind (arith, common_steps)

pub cut_nowhere : (at : ℕ) (text : List ℕ) → IsFirstByte (is_byte at) text None
    → slice_split (λ octet. octet == at) text ≡ text ∷ []
cut_nowhere at text none =
    slice_split_none (λ octet. octet == at) text (λ k d inside.
    rw (get_or-default text k d inside) (not_true _ (none k (omega arith) inside)))
