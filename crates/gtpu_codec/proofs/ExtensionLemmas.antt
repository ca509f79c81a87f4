-- Chains of extension headers, as a relation and as a test.
use Rattle.std.proofs.Common.{◌≡◌, ◌≢◌, ℕ, zero, suc, ◌+◌, ◌-◌, ◌*◌, ◌<◌, ◌≤◌, ◌⊎◌, inl, inr, List, [], ◌∷◌, ◌++◌, length, get_or, drop, Option, Some, None, is_none, option_map, IfSome, IsSomeAnd, refl, sym, ◌∙◌, ap, subst, arith}
use Rattle.gtpu_codec.specs.Extension.{IsChain, ends, header, body_behind}

-- no next type behind more octets than there are
pub behind_the_end : (before : ℕ) (octets : List ℕ) → length octets ≤ before → body_behind before octets ≡ None
behind_the_end zero [] fits = refl
behind_the_end zero (octet ∷ rest) fits = absurd (omega (arith, fits))
behind_the_end (suc before) [] fits = refl
behind_the_end (suc before) (octet ∷ rest) fits = behind_the_end before rest (omega (arith, fits))

-- the next type behind some octets
pub behind_octets : (before : ℕ) (octets : List ℕ) → before < length octets
    → body_behind before octets ≡ body_behind 0 (get_or octets before 0 ∷ drop (suc before) octets)
behind_octets zero [] there = absurd (omega (arith, there))
behind_octets zero (octet ∷ rest) there = refl
behind_octets (suc before) [] there = absurd (omega (arith, there))
behind_octets (suc before) (octet ∷ rest) there = behind_octets before rest (omega (arith, there))

-- no header: its length is 0, or passes the end
pub broken_header : (type : ℕ) (octets : List ℕ) (len : ℕ) → type ≢ 0 → len ≡ 4 * get_or octets 0 0
    → (len ≡ 0) ⊎ (length octets < len) → body_behind 0 (type ∷ octets) ≡ None
broken_header zero octets len more is broken = absurd (more refl)
broken_header (suc type) [] len more is broken = refl
broken_header (suc type) (zero ∷ rest) len more is broken = refl
broken_header (suc type) (suc units ∷ rest) len more is (inl none) = absurd (omega (arith, is, none))
broken_header (suc type) (suc units ∷ rest) len more is (inr passes) =
    behind_the_end (4 * units + 2) rest (omega (arith, is, passes))

-- one header is skipped
pub whole_header : (type : ℕ) (octets : List ℕ) (len : ℕ) → type ≢ 0 → len ≡ 4 * get_or octets 0 0
    → 0 < len → len ≤ length octets
    → body_behind 0 (type ∷ octets) ≡ body_behind 0 (get_or octets (len - 1) 0 ∷ drop len octets)
whole_header zero octets len more is some fits = absurd (more refl)
whole_header (suc type) [] len more is some fits = absurd (omega (arith, some, fits))
whole_header (suc type) (zero ∷ rest) len more is some fits = absurd (omega (arith, some, is))
whole_header (suc type) (suc units ∷ rest) len more is some fits =
    let last : len - 1 ≡ suc (4 * units + 2) = omega (arith, is) in
    let all : len ≡ suc (suc (4 * units + 2)) = omega (arith, is) in
    rw last (rw all (behind_octets (4 * units + 2) rest (omega (arith, is, fits))))

behind_content : (content octets : List ℕ) → body_behind (length content) (content ++ octets) ≡ body_behind 0 octets
behind_content [] octets = refl
behind_content (octet ∷ content) octets = behind_content content octets

-- a chain is found
pub chain_is_found : (type : ℕ) (octets body : List ℕ) → IsChain type octets body
    → body_behind 0 (type ∷ octets) ≡ Some body
chain_is_found _ _ _ (ends body) = refl
chain_is_found _ _ _ (header zero units next content rest body more some whole chain) = absurd (more refl)
chain_is_found _ _ _ (header (suc type) zero next content rest body more some whole chain) =
    absurd (omega (arith, some))
chain_is_found _ _ _ (header (suc type) (suc units) next content rest body more some whole chain) =
    let inner : 4 * units + 2 ≡ length content = omega (arith, whole) in
    ap (λ n. body_behind n (content ++ next ∷ rest)) inner ∙ behind_content content (next ∷ rest)
    ∙ chain_is_found next rest body chain

-- octets with a next type behind so many of them, and a chain behind it
record IsBehind (before : ℕ) (octets body : List ℕ) : Type 0 where
  pub content : List ℕ
  pub type : ℕ
  pub rest : List ℕ
  pub split : octets ≡ content ++ type ∷ rest
  pub count : length content ≡ before
  pub chain : IsChain type rest body

found_is_behind : (before : ℕ) (octets body : List ℕ) → body_behind before octets ≡ Some body
    → IsBehind before octets body
found_is_behind zero [] body found = absurd (cc)
found_is_behind zero (zero ∷ rest) body found =
    let same : rest ≡ body = cc in
    record {
      content = [];
      type = 0;
      rest = rest;
      split = refl;
      count = refl;
      chain = subst (λ b. IsChain 0 rest b) same (ends rest);
    }
found_is_behind zero (suc type ∷ []) body found = absurd (cc)
found_is_behind zero (suc type ∷ zero ∷ rest) body found = absurd (cc)
found_is_behind zero (suc type ∷ suc units ∷ rest) body found =
    let inner : IsBehind (4 * units + 2) rest body = found_is_behind (4 * units + 2) rest body found in
    let some : 0 < suc units = omega arith in
    let whole : length inner.content + 2 ≡ 4 * suc units = omega (arith, inner.count) in
    let more : suc type ≢ 0 = λ e. absurd (omega (arith, e)) in
    let chain : IsChain (suc type) (suc units ∷ inner.content ++ inner.type ∷ inner.rest) body
    = header (suc type) (suc units) inner.type inner.content inner.rest body more some whole inner.chain in
    record {
      content = [];
      type = suc type;
      rest = suc units ∷ rest;
      split = refl;
      count = refl;
      chain = subst (λ octets. IsChain (suc type) (suc units ∷ octets) body) (sym inner.split) chain;
    }
found_is_behind (suc before) [] body found = absurd (cc)
found_is_behind (suc before) (octet ∷ rest) body found =
    let inner : IsBehind before rest body = found_is_behind before rest body found in
    record {
      content = octet ∷ inner.content;
      type = inner.type;
      rest = inner.rest;
      split = ap (λ octets. octet ∷ octets) inner.split;
      count = omega (arith, inner.count);
      chain = inner.chain;
    }

at_the_start : (type : ℕ) (octets body content : List ℕ) (found : ℕ) (rest : List ℕ)
    → type ∷ octets ≡ content ++ found ∷ rest
    → length content ≡ 0 → IsChain found rest body → IsChain type octets body
at_the_start type octets body [] found rest split none chain =
    let same_type : found ≡ type = cc in
    let same_rest : rest ≡ octets = cc in
    subst (λ t. IsChain t octets body) same_type (subst (λ others. IsChain found others body) same_rest chain)
at_the_start type octets body (octet ∷ content) found rest split none chain = absurd (omega (arith, none))

-- what is found is a chain
pub found_is_chain : (type : ℕ) (octets body : List ℕ) → body_behind 0 (type ∷ octets) ≡ Some body
    → IsChain type octets body
found_is_chain type octets body found =
    let behind : IsBehind 0 (type ∷ octets) body = found_is_behind 0 (type ∷ octets) body found in
    at_the_start type octets body behind.content behind.type behind.rest behind.split behind.count behind.chain

-- an optional body that the test gives, as the relation says it
pub chain_answers : {X : Type 0} (now : X → List ℕ) (found : Option X) (type : ℕ) (octets : List ℕ)
    → option_map now found ≡ body_behind 0 (type ∷ octets)
    → IfSome found (λ x. IsChain type octets (now x))
    × ((body : List ℕ) → IsChain type octets body → IsSomeAnd found (λ x. now x ≡ body))
    × (is_none found ≡ is_none (body_behind 0 (type ∷ octets)))
chain_answers now None type octets test = (
  tt,
  (λ body chain. let some : None ≡ Some body = test ∙ chain_is_found type octets body chain in absurd (cc)),
  ap is_none test,
)
chain_answers now (Some x) type octets test = (
  found_is_chain type octets (now x) (sym test),
  (λ body chain. let some : Some (now x) ≡ Some body = test ∙ chain_is_found type octets body chain in cc),
  ap is_none test,
)
