-- Which lines take memory.
use Rattle.std.specs.Prelude.{ℕ, ◌||◌, Bool, false, List, ◌∷◌, codes}
use Rattle.std.specs.Str.{bytes_eq}

-- a kind whose one argument is octets
abbrev pub is_message : List ℕ → Bool
is_message word = bytes_eq word (codes "S1U") || bytes_eq word (codes "SGI") || bytes_eq word (codes "S11")

-- a kind whose last argument is octets: a message, or an order with a traffic flow template
abbrev pub has_octets : List ℕ → Bool
has_octets word = is_message word || bytes_eq word (codes "BEARER") || bytes_eq word (codes "FILTERS")

-- the text is one of a kind with octets
abbrev pub wants_octets : List (List ℕ) → Bool
wants_octets (moment ∷ word ∷ arguments) = has_octets word
wants_octets _ = false
