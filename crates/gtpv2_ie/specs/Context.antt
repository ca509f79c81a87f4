-- A Bearer Context (TS 29.274, 8.28), by the elements in it.
use Rattle.std.specs.Prelude.{ℕ, List, [], ◌∷◌, ◌++◌, length, Option, Some, None}
use Rattle.std.specs.List.{filter_map, cons_option}
use Rattle.std.specs.Option.{option_or}
use Rattle.gtpv2_ie.specs.declared.cause.CauseIe.{CauseIe}
use Rattle.gtpv2_ie.specs.declared.context.Context.{Context}
use Rattle.gtpv2_ie.specs.declared.fteid.Fteid.{Fteid}
use Rattle.gtpv2_ie.specs.declared.qos.QosIe.{QosIe}
use Rattle.gtpv2_ie.specs.declared.value.IeValue.{IeValue}
use Rattle.gtpv2_ie.specs.declared.value.IeValue.TheVariants as values
use Rattle.gtpv2_ie.specs.Element.{Element}
use Rattle.gtpv2_ie.specs.Spelling.{cause_octets}

-- the first that elements give
abbrev pub first_of : {X : Type 0} → (Element → Option X) → List Element → Option X
first_of part [] = None
first_of part (ie ∷ ies) = option_or (part ie) (first_of part ies)

-- what an element gives to each part of a Context; the instance counts at an F-TEID alone
abbrev pub ebi_value : IeValue → Option ℕ
ebi_value (values.Ebi ebi) = Some ebi
ebi_value _ = None

abbrev pub cause_value : IeValue → Option CauseIe
cause_value (values.Cause cause) = Some cause
cause_value _ = None

abbrev pub tft_value : IeValue → Option (List ℕ)
tft_value (values.Tft octets) = Some octets
tft_value _ = None

abbrev pub qos_value : IeValue → Option QosIe
qos_value (values.Qos qos) = Some qos
qos_value _ = None

abbrev pub fteid_value : ℕ → IeValue → Option (ℕ × Fteid)
fteid_value instance (values.Fteid fteid) = Some (instance, fteid)
fteid_value instance _ = None

-- the Context of elements that are inside their grammar: of each type the first, of F-TEIDs all
abbrev pub context_with : List Element → Context
context_with ies = record {
  ebi = first_of (λ ie. ebi_value ie.value) ies;
  cause = first_of (λ ie. cause_value ie.value) ies;
  tft = first_of (λ ie. tft_value ie.value) ies;
  fteids = filter_map (λ ie. fteid_value ie.instance ie.value) ies;
  qos = first_of (λ ie. qos_value ie.value) ies;
}

-- a Context with one more element behind those that it holds
abbrev pub put_in : Context → Element → Context
put_in context ie = record {
  ebi = option_or context.ebi (ebi_value ie.value);
  cause = option_or context.cause (cause_value ie.value);
  tft = option_or context.tft (tft_value ie.value);
  fteids = context.fteids ++ cons_option (fteid_value ie.instance ie.value) [];
  qos = option_or context.qos (qos_value ie.value);
}

abbrev pub put_if : Context → Option Element → Context
put_if context None = context
put_if context (Some ie) = put_in context ie

-- the octets that an element's value takes where a Context holds it; none where it doesn't count
abbrev pub counted_len : IeValue → ℕ
counted_len (values.Ebi _) = 1
counted_len (values.Cause cause) = length (cause_octets cause)
counted_len (values.Tft octets) = length octets
counted_len (values.Qos _) = 22
counted_len (values.Fteid _) = 9
counted_len _ = 0
