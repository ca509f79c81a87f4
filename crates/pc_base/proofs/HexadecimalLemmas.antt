-- The digits of one octet more.
use Rattle.std.proofs.Common.{◌≡◌, ℕ, ◌+◌, ◌<◌, List, [], ◌∷◌, ◌++◌, length, take, get_or, refl}
use Rattle.std.proofs.lemmas.List.{take_more}
use Rattle.hex.specs.Hex.{encode_with, encode_lower}

encode-append : (xs ys : List ℕ) → encode_lower (xs ++ ys) ≡ encode_lower xs ++ encode_lower ys
unfolding encode_with
encode-append [] ys = refl
encode-append (x ∷ xs) ys = rw (encode-append xs ys) refl

pub encode_more : (octets : List ℕ) (place : ℕ) → place < length octets
    → encode_lower (take place octets) ++ encode_lower (get_or octets place 0 ∷ [])
    ≡ encode_lower (take (place + 1) octets)
encode_more octets place inside = rw (take_more octets place 0 inside, encode-append (take place octets) (get_or octets place 0 ∷ [])) refl
