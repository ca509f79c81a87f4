-- Known octets of a sink grow, and those of a source are consumed, call after call.
use Rattle.std.proofs.Common.{◌≡◌, ℕ, ◌<◌, List, [], ◌∷◌, ◌++◌, length, take, drop, Option, None, Some, sym, ◌∙◌, ap, refl, append_assoc}
use Rattle.std.proofs.lemmas.List.{take-append-drop, append-nil}
use Rattle.std.specs.Io.KnownBytes.{Appends, Keeps, Consumes}
use Rattle.pc_outside.specs.Prefixes.{AppendsPrefix}

-- one growth after the other
pub appends_both : (old mid new : Option (List ℕ)) (xs ys : List ℕ) → Appends old mid xs → Appends mid new ys
    → Appends old new (xs ++ ys)
appends_both None mid new xs ys a b = tt
appends_both (Some o) None new xs ys a b = absurd a
appends_both (Some o) (Some m) None xs ys a b = absurd b
appends_both (Some o) (Some m) (Some n) xs ys a b = b ∙ ap (λ t. t ++ ys) a ∙ append_assoc o xs ys

-- a call that keeps them
pub appends_kept : (old mid new : Option (List ℕ)) (xs : List ℕ) → Appends old mid xs → Keeps mid new
    → Appends old new xs
appends_kept None mid new xs a b = tt
appends_kept (Some o) None new xs a b = absurd a
appends_kept (Some o) (Some m) None xs a b = absurd b
appends_kept (Some o) (Some m) (Some n) xs a b = b ∙ a

-- no octet is no growth
pub appends_none : (known : Option (List ℕ)) → Appends known known []
appends_none None = tt
appends_none (Some o) = sym (append-nil o)

-- a prefix of the octets was appended, and the rest wasn't yet
pub record IsWrittenUpTo (old new : Option (List ℕ)) (octets rest : List ℕ) : Type 0 where
  pub prefix : List ℕ
  pub parts : octets ≡ prefix ++ rest
  pub appended : Appends old new prefix

pub written-start : (known : Option (List ℕ)) (octets : List ℕ) → IsWrittenUpTo known known octets octets
written-start known octets = record { prefix = []; parts = refl; appended = appends_none known }

pub written-more : (old mid new : Option (List ℕ)) (octets rest : List ℕ) (n : ℕ) → IsWrittenUpTo old mid octets rest
    → Appends mid new (take n rest) → IsWrittenUpTo old new octets (drop n rest)
written-more old mid new octets rest n so_far more = record {
  prefix = so_far.prefix ++ take n rest;
  parts = so_far.parts ∙ ap (λ t. so_far.prefix ++ t) (sym (take-append-drop n rest))
      ∙ sym (append_assoc so_far.prefix (take n rest) (drop n rest));
  appended = appends_both old mid new so_far.prefix (take n rest) so_far.appended more;
}

pub written-whole : (old new : Option (List ℕ)) (octets rest : List ℕ) → IsWrittenUpTo old new octets rest
    → length rest ≡ 0 → Appends old new octets
written-whole old new octets [] so_far none = rw (so_far.parts, append-nil so_far.prefix) so_far.appended
written-whole old new octets (x ∷ rest) so_far none = cc

pub written-cut : (old mid new : Option (List ℕ)) (octets rest : List ℕ) → IsWrittenUpTo old mid octets rest
    → 0 < length rest → Keeps mid new → AppendsPrefix old new octets
written-cut old mid new octets rest so_far some keeps = record {
  prefix = so_far.prefix;
  rest = rest;
  parts = so_far.parts;
  some_left = some;
  appended = appends_kept old mid new so_far.prefix so_far.appended keeps;
}

-- one reading after the other
pub consumes_both : (old mid new : Option (List ℕ)) (xs ys : List ℕ) → Consumes old mid xs → Consumes mid new ys
    → Consumes old new (xs ++ ys)
consumes_both None mid new xs ys a b = tt
consumes_both (Some o) None new xs ys a b = absurd a
consumes_both (Some o) (Some m) None xs ys a b = absurd b
consumes_both (Some o) (Some m) (Some n) xs ys a b = a ∙ ap (λ t. xs ++ t) b ∙ sym (append_assoc xs ys n)

-- a call that keeps them
pub consumes_kept : (old mid new : Option (List ℕ)) (xs : List ℕ) → Consumes old mid xs → Keeps mid new
    → Consumes old new xs
consumes_kept None mid new xs a b = tt
consumes_kept (Some o) None new xs a b = absurd a
consumes_kept (Some o) (Some m) None xs a b = absurd b
consumes_kept (Some o) (Some m) (Some n) xs a b = a ∙ ap (λ t. xs ++ t) (sym b)

-- no octet is no reading
pub consumes_none : (known : Option (List ℕ)) → Consumes known known []
consumes_none None = tt
consumes_none (Some o) = refl
