-- The table of kinds. A further kind is one row here, one definition and one variant.
use Rattle.std.specs.Prelude.{ℕ, Bool, ◌||◌, List, [], ◌∷◌, slice_index, Option, Some, None, ◌==◌}
use Rattle.std.specs.List.{find}
use Rattle.std.specs.Option.{option_map}
use Rattle.gtpv2_ie.specs.declared.context.Context.{Context}
use Rattle.gtpv2_ie.specs.declared.kind.IeKind.{IeKind}
use Rattle.gtpv2_ie.specs.declared.kind.IeKind.TheVariants as kinds
use Rattle.gtpv2_ie.specs.declared.value.IeValue.{IeValue}
use Rattle.gtpv2_ie.specs.declared.value.IeValue.TheVariants as values
use Rattle.wire_octets.specs.Numbers.{be32_at}
use Rattle.gtpv2_ie.specs.Imsi.{imsi_of}
use Rattle.gtpv2_ie.specs.Fields.{ebi_of, pdn_of, paa_of, octets_of, cause_of, fteid_of, qos_of}

-- the type octet, the fewest octets of a value, and the value that so many octets or more spell
pub record KindRow : Type 0 where
  pub type_octet : ℕ
  pub least_len : ℕ
  pub value : List ℕ → Option IeValue

abbrev pub row_of : ℕ → ℕ → (List ℕ → Option IeValue) → KindRow
row_of type_octet least_len value = record { type_octet = type_octet; least_len = least_len; value = value }

-- The table (TS 29.274, table 8.1-1), where `context` says which Bearer Context octets spell.
abbrev pub row : (List ℕ → Option Context) → IeKind → KindRow
row context kinds.Imsi = row_of 1 3 (λ octets. option_map values.Imsi (imsi_of octets))
row context kinds.Cause = row_of 2 2 (λ octets. option_map values.Cause (cause_of octets))
row context kinds.Recovery = row_of 3 1 (λ octets. Some (values.Recovery (slice_index octets 0)))
row context kinds.Apn = row_of 71 1 (λ octets. option_map values.Apn (octets_of 100 octets))
row context kinds.Ambr = row_of 72 8 (λ octets. Some (values.Ambr (be32_at octets 0) (be32_at octets 4)))
row context kinds.Ebi = row_of 73 1 (λ octets. option_map values.Ebi (ebi_of octets))
row context kinds.Paa = row_of 79 5 (λ octets. option_map values.Paa (paa_of octets))
row context kinds.Qos = row_of 80 22 (λ octets. Some (values.Qos (qos_of octets)))
row context kinds.Rat = row_of 82 1 (λ octets. Some (values.Rat (slice_index octets 0)))
row context kinds.Tft = row_of 84 1 (λ octets. option_map values.Tft (octets_of 1000 octets))
row context kinds.Fteid = row_of 87 9 (λ octets. option_map values.Fteid (fteid_of octets))
row context kinds.Context = row_of 93 0 (λ octets. option_map values.Context (context octets))
row context kinds.Pdn = row_of 99 1 (λ octets. option_map values.Pdn (pdn_of octets))

-- no Context is read
abbrev pub no_context : List ℕ → Option Context
no_context octets = None

abbrev pub type_octet : IeKind → ℕ
type_octet kind = (row no_context kind).type_octet

abbrev pub least_len : IeKind → ℕ
least_len kind = (row no_context kind).least_len

abbrev pub all_kinds : List IeKind
all_kinds =
    kinds.Imsi ∷ kinds.Cause ∷ kinds.Recovery ∷ kinds.Apn ∷ kinds.Ambr ∷ kinds.Ebi ∷ kinds.Paa ∷ kinds.Qos
    ∷ kinds.Rat ∷ kinds.Tft ∷ kinds.Fteid ∷ kinds.Context ∷ kinds.Pdn ∷ []

-- a value of this type takes memory: an IMSI, an APN and a TFT are kept as octets, and a Context may
-- hold such a value
abbrev pub takes_memory : ℕ → Bool
takes_memory octet = octet == 1 || octet == 71 || octet == 84 || octet == 93

-- the kind with a type octet
abbrev pub kind_at : ℕ → Option IeKind
kind_at octet = find (λ kind. type_octet kind == octet) all_kinds
