-- What an answer of the reader says, by the grammar.
use Rattle.std.proofs.Common.{◌≡◌, ℕ, List, None, Result, Ok, Err, sym, ap, subst, ◌∙◌, inl, inr, refl}
use Rattle.std.specs.Prelude.{IfOk}
use Rattle.tft_codec.specs.declared.fault.TBad.{TBad}
use Rattle.tft_codec.specs.declared.fault.TBad.TheVariants as bad
use Rattle.tft_codec.specs.declared.tft.Tft.{Tft}
use Rattle.tft_codec.specs.Spelling.{Spells}
use Rattle.tft_codec.specs.Reading.{tft_at}
use Rattle.tft_codec.specs.Refusal.{Says, Reads, first_fault}
use Rattle.wire_octets.specs.Memory.{OrNoMemory}
use Rattle.wire_octets.specs.Numbers.{AreOctets}
use Rattle.tft_codec.proofs.TftLemmas.{tft_again, tft_taken}

pub read_is_spelled : (octets : List ℕ) (answer : Result Tft TBad) → AreOctets octets
    → Reads (λ t. t) answer (first_fault octets) (tft_at octets) → IfOk answer (λ t. Spells octets t)
read_is_spelled octets (Ok t) small given = subst (Spells octets) (sym given.1) (tft_taken octets small given.0)
read_is_spelled octets (Err fault) small given = tt

-- where there is no fault, an error says that memory ran out
faultless : (octets : List ℕ) (fault : TBad) → first_fault octets ≡ None → Says fault (first_fault octets)
    → fault ≡ bad.NoMemory
faultless octets bad.NoMemory nothing said = refl
faultless octets bad.Short nothing said = absurd cc
faultless octets bad.Parameters nothing said = absurd cc
faultless octets bad.Operation nothing said = absurd cc
faultless octets bad.Component nothing said = absurd cc
faultless octets bad.RepeatedId nothing said = absurd cc
faultless octets bad.Trailing nothing said = absurd cc

pub spelled_is_read : (octets : List ℕ) (answer : Result Tft TBad)
    → Reads (λ t. t) answer (first_fault octets) (tft_at octets) → (t : Tft) → Spells octets t
    → OrNoMemory answer (Ok t) bad.NoMemory
spelled_is_read octets (Ok u) given t spelled =
    inl (ap (λ (v : Tft). Ok v) (given.1 ∙ (tft_again octets t spelled).value))
spelled_is_read octets (Err fault) given t spelled =
    inr (ap (λ (b : TBad). Err b) (faultless octets fault (tft_again octets t spelled).faultless given))
