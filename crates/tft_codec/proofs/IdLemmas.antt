-- Identifiers that are read are spelled so, and identifiers that are spelled are read again.
use Rattle.std.proofs.Common.{◌≡◌, ℕ, zero, suc, ◌%◌, ◌<◌, List, [], ◌∷◌, ◌++◌, length, None, refl, sym, ap, subst, arith}
use Rattle.std.specs.List.{AllByRecursion}
use Rattle.tft_codec.specs.declared.fault.TBad.TheVariants as bad
use Rattle.tft_codec.specs.Component.{has}
use Rattle.tft_codec.specs.Spelling.{SpellsIds}
use Rattle.tft_codec.specs.Reading.{ids_at}
use Rattle.tft_codec.specs.Refusal.{end_fault, ids_fault}
use Rattle.tft_codec.proofs.ContentsLemmas.{AreFresh}
use Rattle.tft_codec.proofs.FilterLemmas.{passed, no_more}

pub record AreIdsTaken (n : ℕ) (seen octets : List ℕ) : Type 0 where
  pub spelled : SpellsIds octets (ids_at octets)
  pub each : AllByRecursion (λ x. x < 16) (ids_at octets)
  pub fresh : AreFresh seen (ids_at octets)
  pub count : length (ids_at octets) ≡ n

none_taken : (seen octets : List ℕ) → octets ≡ [] → AreIdsTaken 0 seen octets
none_taken seen octets nothing =
    subst (AreIdsTaken 0 seen) (sym nothing) (record { spelled = refl; each = tt; fresh = tt; count = refl })

pub ids_taken : (n : ℕ) (seen octets : List ℕ) → ids_fault n seen octets ≡ None → AreIdsTaken n seen octets
unfolding ids_fault
ids_taken zero seen octets e = none_taken seen octets (no_more octets e)
ids_taken (suc n) seen [] e = absurd cc
ids_taken (suc n) seen (octet ∷ octets) e =
    let new = passed (has seen (octet % 16)) bad.RepeatedId (ids_fault n (seen ++ octet % 16 ∷ []) octets) e in
    let others = ids_taken n (seen ++ octet % 16 ∷ []) octets new.1 in
    record {
      spelled = (octet, octets, refl, refl, others.spelled);
      each = (omega arith, others.each);
      fresh = (new.0, others.fresh);
      count = ap suc others.count;
    }

pub ids_again : (xs seen octets : List ℕ) → SpellsIds octets xs → AreFresh seen xs
    → (ids_fault (length xs) seen octets ≡ None) × (ids_at octets ≡ xs)
unfolding ids_fault
ids_again [] seen octets spelled fresh = (ap end_fault spelled, ap ids_at spelled)
ids_again (x ∷ xs) seen octets spelled fresh =
    let others = ids_again xs (seen ++ x ∷ []) spelled.1 spelled.4 fresh.1 in
    let again : (ids_fault (suc (length xs)) seen (spelled.0 ∷ spelled.1) ≡ None)
    × (ids_at (spelled.0 ∷ spelled.1) ≡ x ∷ xs) =
    rw (spelled.3, fresh.0) (others.0, ap (λ (ys : List ℕ). x ∷ ys) others.1) in
    subst (λ (all : List ℕ). (ids_fault (suc (length xs)) seen all ≡ None) × (ids_at all ≡ x ∷ xs))
    (sym spelled.2) again
