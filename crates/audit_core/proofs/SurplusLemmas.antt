-- The first open counters that are told again, or are of no bearer.
use Rattle.std.proofs.Common.{◌≡◌, ℕ, ◌+◌, ◌<◌, ◌≤◌, ◌↔◌, List, ◌∷◌, ◌++◌, length, take, drop, refl, sym, ap, ◌∙◌, subst, arith, append_assoc, length-append}
use Rattle.std.proofs.lemmas.List.{drop_all, drop_at, length-take-le, take_at}
use Rattle.report_lines.specs.declared.entry.ChargeEntry.{ChargeEntry}
use Rattle.audit_core.specs.Charges.{IsTooMany, IsTooManyAt, Surplus}
use Rattle.audit_core.specs.Places.{first_of}

module _ (made told : List ChargeEntry) where
  pub surplus_none : (at : ℕ) → length told ≤ at → ((k : ℕ) → k < length told → IsTooManyAt made told k → ⊥)
      → Surplus made told (first_of (drop at told))
  surplus_none at past none =
      subst (λ rest. Surplus made told (first_of rest)) (sym (drop_all at told past))
      (λ prefix later open_ parts many.
      let count : length told ≡ length prefix + length (open_ ∷ later) =
      ap length parts ∙ length-append prefix (open_ ∷ later) in
      none (length prefix) (omega (arith, count)) (record {
        prefix = prefix;
        open_ = open_;
        later = later;
        parts = parts;
        behind = refl;
        too_many = many;
      }))

  pub surplus_some : (at : ℕ) → IsTooManyAt made told at → ((k : ℕ) → k < at → IsTooManyAt made told k → ⊥)
      → Surplus made told (first_of (drop at told))
  surplus_some at is none =
      let tail = is.open_ ∷ is.later in
      let rest : drop at told ≡ tail = ap (drop at) is.parts ∙ drop_at is.prefix tail at is.behind in
      subst (λ xs. Surplus made told (first_of xs)) (sym rest) (record {
        prefix = is.prefix;
        later = is.later;
        parts = is.parts;
        before = λ prefix later open_ parts many.
            let count : length is.prefix ≡ length prefix + length (open_ ∷ later) =
            ap length parts ∙ length-append prefix (open_ ∷ later) in
            none (length prefix) (omega (arith, count, is.behind)) (record {
              prefix = prefix;
              open_ = open_;
              later = later ++ tail;
              parts = is.parts ∙ ap (λ (xs : List ChargeEntry). xs ++ tail) parts ∙ append_assoc prefix (open_ ∷ later) tail;
              behind = refl;
              too_many = many;
            });
        too_many = is.too_many;
      })

  -- the one at a place
  pub too_many_at : (at : ℕ) (open_ : ChargeEntry) → told ≡ take at told ++ open_ ∷ drop (at + 1) told → at < length told
      → IsTooMany made (take at told) open_ ↔ IsTooManyAt made told at
  too_many_at at open_ parts low = (
    (λ many. record {
      prefix = take at told;
      open_ = open_;
      later = drop (at + 1) told;
      parts = parts;
      behind = length-take-le at told (omega (arith, low));
      too_many = many;
    }),
    (λ is.
        let prefix : take at told ≡ is.prefix =
        ap (take at) is.parts ∙ take_at is.prefix (is.open_ ∷ is.later) at is.behind in
        let both : open_ ∷ drop (at + 1) told ≡ is.open_ ∷ is.later =
        sym (drop_at (take at told) (open_ ∷ drop (at + 1) told) at (length-take-le at told (omega (arith, low))))
        ∙ ap (drop at) (sym parts ∙ is.parts) ∙ drop_at is.prefix (is.open_ ∷ is.later) at is.behind in
        let same : open_ ≡ is.open_ = cc in
        subst (λ o. IsTooMany made (take at told) o) (sym same)
        (subst (λ xs. IsTooMany made xs is.open_) (sym prefix) is.too_many)),
  )
