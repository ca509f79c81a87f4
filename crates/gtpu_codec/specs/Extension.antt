-- Extension headers (TS 29.281, section 5.2.1): a length in units of four octets, the content, and the
-- type of what comes next. Every one is skipped, whatever its type.
use Rattle.std.specs.Prelude.{
  ◌≡◌,
  ◌≢◌,
  ℕ,
  zero,
  suc,
  ◌+◌,
  ◌*◌,
  ◌<◌,
  List,
  [],
  ◌∷◌,
  ◌++◌,
  length,
  slice_index,
  drop,
  Option,
  Some,
  None,
}

-- headers from one of this type on, then the body; type 0 says that none follows
pub data IsChain : ℕ → List ℕ → List ℕ → Type 0 where
  ends : (body : List ℕ) → IsChain 0 body body
  header : (type units next : ℕ) (content rest body : List ℕ) → type ≢ 0 → 0 < units
      → length content + 2 ≡ 4 * units → IsChain next rest body
      → IsChain type (units ∷ content ++ next ∷ rest) body

-- The body of octets with a next type behind so many others, as a test: None where a header passes the
-- end or has length 0. Of a header of n units, 4 * n - 2 octets stand between its length and its next type.
abbrev pub body_behind : ℕ → List ℕ → Option (List ℕ)
body_behind zero [] = None
body_behind zero (zero ∷ body) = Some body
body_behind zero (suc type ∷ []) = None
body_behind zero (suc type ∷ zero ∷ rest) = None
body_behind zero (suc type ∷ suc units ∷ rest) = body_behind (4 * units + 2) rest
body_behind (suc before) [] = None
body_behind (suc before) (octet ∷ rest) = body_behind before rest

-- The body behind the extension headers of the octets that a length counts: the fourth of these is the
-- type of the first header.
abbrev pub behind_headers : List ℕ → Option (List ℕ)
behind_headers counted = body_behind 0 (slice_index counted 3 ∷ drop 4 counted)
