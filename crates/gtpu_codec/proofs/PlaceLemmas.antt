-- The body of a message lies at the end of what the length counts.
use Rattle.std.proofs.Common.{◌≡◌, ℕ, ◌+◌, ◌-◌, ◌≤◌, Bool, true, false, List, [], ◌∷◌, ◌++◌, length, take, drop, Option, refl, sym, ◌∙◌, ap, arith, append_assoc, length-append, length-take-le, length-drop, drop-drop, drop_at, Result, Ok, Err, IfOk}
use Rattle.std.proofs.lemmas.List.{take-append-drop, drop-take}
use Rattle.gtpu_codec.specs.declared.fault.UBad.{UBad}
use Rattle.gtpu_codec.specs.declared.head.GtpUHead.{GtpUHead}
use Rattle.gtpu_codec.specs.Extension.{IsChain, ends, header}
use Rattle.gtpu_codec.specs.Head.{length_in, counted_in, flags_in, has_options, has_extensions}
use Rattle.gtpu_codec.specs.Place.{EndsCounted}
use Rattle.gtpu_codec.specs.Spelling.{Spells, SpellsBody, SpellsCounted}

record IsEnd (octets body : List ℕ) : Type 0 where
  prefix : List ℕ
  split : octets ≡ prefix ++ body

chain_end : (type : ℕ) (octets body : List ℕ) → IsChain type octets body → IsEnd octets body
chain_end _ _ _ (ends body) = record { prefix = []; split = refl }
chain_end _ _ _ (header type units next content rest body more some whole chain) =
    let inner : IsEnd rest body = chain_end next rest body chain in
    record {
      prefix = units ∷ content ++ next ∷ inner.prefix;
      split = ap (λ r. units ∷ content ++ next ∷ r) inner.split
          ∙ ap (λ r. units ∷ r) (sym (append_assoc content (next ∷ inner.prefix) body));
    }

body_end : (extensions : Bool) (next : ℕ) (octets body : List ℕ) → SpellsBody extensions next octets body
    → IsEnd octets body
body_end true next octets body chain = chain_end next octets body chain
body_end false next octets body same = record { prefix = []; split = sym same }

counted_end : (flags : ℕ) (options : Bool) (counted : List ℕ) (seq : Option ℕ) (body : List ℕ)
    → SpellsCounted flags options counted seq body → IsEnd counted body
counted_end flags false counted seq body spelled = record { prefix = []; split = sym spelled.1 }
counted_end flags true counted seq body spelled =
    let inner : IsEnd (drop 4 counted) body = body_end (has_extensions flags) _ (drop 4 counted) body spelled.2 in
    record {
      prefix = take 4 counted ++ inner.prefix;
      split = sym (take-append-drop 4 counted) ∙ ap (λ r. take 4 counted ++ r) inner.split
          ∙ sym (append_assoc (take 4 counted) inner.prefix body);
    }

-- what stands behind a prefix of the first octets of some
behind_prefix : (octets prefix body : List ℕ) (len : ℕ) → len ≤ length (drop 8 octets)
    → take len (drop 8 octets) ≡ prefix ++ body
    → (length prefix + length body ≡ len) × (take (length body) (drop (8 + length prefix) octets) ≡ body)
behind_prefix octets prefix body len there split =
    let rest : List ℕ = drop 8 octets in
    let count : length prefix + length body ≡ len
    = sym (length-append prefix body) ∙ ap length (sym split) ∙ length-take-le len rest there in
    let same : take (length prefix + length body) rest ≡ prefix ++ body = ap (λ n. take n rest) count ∙ split in (
      count,
      ap (take (length body)) (sym (drop-drop (length prefix) 8 octets))
          ∙ sym (drop-take (length prefix) (length body) rest)
          ∙ ap (drop (length prefix)) same
          ∙ drop_at prefix body (length prefix) refl,
    )

pub ends_counted : (octets : List ℕ) (head : GtpUHead) (body : List ℕ) → Spells octets head body
    → EndsCounted octets body
ends_counted octets head body spelled =
    let inner : IsEnd (counted_in octets) body
    = counted_end (flags_in octets) (has_options (flags_in octets)) (counted_in octets) head.seq body spelled.6 in
    let found = behind_prefix octets inner.prefix body (length_in octets) spelled.5 inner.split in
    let behind : length (drop 8 octets) ≡ length octets - 8 = length-drop 8 octets in
    let whole : 8 ≤ length octets = spelled.0 in
    let there : length_in octets ≤ length (drop 8 octets) = spelled.5 in
    let count : length inner.prefix + length body ≡ length_in octets = found.0 in
    let place : length_in octets - length body ≡ length inner.prefix = omega (arith, count) in (
      omega (arith, count),
      omega (arith, whole, there, behind),
      ap (λ n. take (length body) (drop (8 + n) octets)) place ∙ found.1,
    )

pub body_ends_counted : {X : Type 0} (now : X → List ℕ) (octets : List ℕ) (result : Result (GtpUHead × X) UBad)
    → IfOk result (λ r. Spells octets r.0 (now r.1)) → IfOk result (λ r. EndsCounted octets (now r.1))
body_ends_counted now octets (Ok (head, body)) spelled = ends_counted octets head (now body) spelled
body_ends_counted now octets (Err bad) spelled = tt
