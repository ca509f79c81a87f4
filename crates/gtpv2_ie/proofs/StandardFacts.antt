-- Worked octets, by the definitions alone.
use Rattle.std.proofs.Common.{◌≡◌, ℕ, List, [], ◌∷◌, map, Some, None, Err, refl}
use Rattle.gtpv2_ie.specs.declared.fault.IeBad.TheVariants.{Short, Length}
use Rattle.gtpv2_ie.specs.declared.value.IeValue.TheVariants as values
use Rattle.gtpv2_ie.specs.declared.cause_value.TheConstants.{REQUEST_ACCEPTED, NEW_PDN_TYPE_DUE_TO_NETWORK_PREFERENCE, CONTEXT_NOT_FOUND, MANDATORY_IE_INCORRECT, MANDATORY_IE_MISSING, PREFERRED_PDN_TYPE_NOT_SUPPORTED, ALL_DYNAMIC_ADDRESSES_ARE_OCCUPIED, REQUEST_REJECTED}
use Rattle.gtpv2_ie.specs.declared.interface.TheConstants.{S1_U_ENODEB, S1_U_SGW, S11_MME, S11_SGW}
use Rattle.gtpv2_ie.specs.Element.{Element}
use Rattle.gtpv2_ie.specs.Imsi.{digits_of, imsi_octets}
use Rattle.gtpv2_ie.specs.Stand.{ies_from, ies_of}
use Rattle.gtpv2_ie.specs.Value.{value_of}
use Rattle.gtpv2_ie.specs.Spelling.{spelling}

-- IMSI 001010123456789
imsi_reads : value_of 1 (0x00 ∷ 0x01 ∷ 0x01 ∷ 0x21 ∷ 0x43 ∷ 0x65 ∷ 0x87 ∷ 0xf9 ∷ [])
    ≡ Some (values.Imsi (48 ∷ 48 ∷ 49 ∷ 48 ∷ 49 ∷ 48 ∷ 49 ∷ 50 ∷ 51 ∷ 52 ∷ 53 ∷ 54 ∷ 55 ∷ 56 ∷ 57 ∷ []))
unfolding digits_of
imsi_reads = refl

imsi_is_spelled : imsi_octets (48 ∷ 48 ∷ 49 ∷ 48 ∷ 49 ∷ 48 ∷ 49 ∷ 50 ∷ 51 ∷ 52 ∷ 53 ∷ 54 ∷ 55 ∷ 56 ∷ 57 ∷ []) ≡ 0x00
    ∷ 0x01 ∷ 0x01 ∷ 0x21 ∷ 0x43 ∷ 0x65 ∷ 0x87 ∷ 0xf9 ∷ []
unfolding imsi_octets
imsi_is_spelled = refl

-- a Context of EBI 5, Cause 16 and an F-TEID of the S1-U SGW, as a response has it
abbrev context_octets_of : List ℕ
context_octets_of =
    0x5d ∷ 0x00 ∷ 0x18 ∷ 0x00 ∷ 0x49 ∷ 0x00 ∷ 0x01 ∷ 0x00 ∷ 0x05 ∷ 0x02 ∷ 0x00 ∷ 0x02 ∷ 0x00 ∷ 0x10 ∷ 0x00 ∷ 0x57
    ∷ 0x00 ∷ 0x09 ∷ 0x00 ∷ 0x81 ∷ 0x00 ∷ 0x00 ∷ 0x00 ∷ 0x11 ∷ 0xc0 ∷ 0x00 ∷ 0x02 ∷ 0x01 ∷ []

context_is_spelled : spelling (record {
  instance = 0;
  value = values.Context (record {
    ebi = Some 5;
    cause = Some (record { cause = 16; offending = None });
    tft = None;
    fteids = (0, record { interface = 1; teid = 0x11; addr = 0xc0000201 }) ∷ [];
    qos = None;
  });
}) ≡ context_octets_of
context_is_spelled = refl

cut_is_short : ies_of (0x49 ∷ 0x00 ∷ 0x01 ∷ 0x00 ∷ 0x05 ∷ 0x02 ∷ 0x00 ∷ 0x02 ∷ []) ≡ Err Short
unfolding ies_from
cut_is_short = refl

long_is_length : ies_of (0x49 ∷ 0xff ∷ 0xff ∷ 0x00 ∷ 0x05 ∷ []) ≡ Err Length
unfolding ies_from
long_is_length = refl

-- an F-TEID of each interface, with the TEID 17 and the address 192.0.2.1
abbrev fteid_of_interface : ℕ → Element
fteid_of_interface interface =
    record { instance = 0; value = values.Fteid (record { interface = interface; teid = 0x11; addr = 0xc0000201 }) }

interfaces_are_spelled : map (λ interface. spelling (fteid_of_interface interface))
    (S1_U_ENODEB ∷ S1_U_SGW ∷ S11_MME ∷ S11_SGW ∷ [])
    ≡ (0x57 ∷ 0x00 ∷ 0x09 ∷ 0x00 ∷ 0x80 ∷ 0x00 ∷ 0x00 ∷ 0x00 ∷ 0x11 ∷ 0xc0 ∷ 0x00 ∷ 0x02 ∷ 0x01 ∷ [])
    ∷ (0x57 ∷ 0x00 ∷ 0x09 ∷ 0x00 ∷ 0x81 ∷ 0x00 ∷ 0x00 ∷ 0x00 ∷ 0x11 ∷ 0xc0 ∷ 0x00 ∷ 0x02 ∷ 0x01 ∷ [])
    ∷ (0x57 ∷ 0x00 ∷ 0x09 ∷ 0x00 ∷ 0x8a ∷ 0x00 ∷ 0x00 ∷ 0x00 ∷ 0x11 ∷ 0xc0 ∷ 0x00 ∷ 0x02 ∷ 0x01 ∷ [])
    ∷ (0x57 ∷ 0x00 ∷ 0x09 ∷ 0x00 ∷ 0x8b ∷ 0x00 ∷ 0x00 ∷ 0x00 ∷ 0x11 ∷ 0xc0 ∷ 0x00 ∷ 0x02 ∷ 0x01 ∷ []) ∷ []
interfaces_are_spelled = refl

-- a Cause of each value
abbrev cause_of_value : ℕ → Element
cause_of_value cause = record { instance = 0; value = values.Cause (record { cause = cause; offending = None }) }

abbrev cause_values : List ℕ
cause_values =
    REQUEST_ACCEPTED ∷ NEW_PDN_TYPE_DUE_TO_NETWORK_PREFERENCE ∷ CONTEXT_NOT_FOUND ∷ MANDATORY_IE_INCORRECT
    ∷ MANDATORY_IE_MISSING ∷ PREFERRED_PDN_TYPE_NOT_SUPPORTED ∷ ALL_DYNAMIC_ADDRESSES_ARE_OCCUPIED ∷ REQUEST_REJECTED
    ∷ []

causes_are_spelled : map (λ cause. spelling (cause_of_value cause)) cause_values
    ≡ (0x02 ∷ 0x00 ∷ 0x02 ∷ 0x00 ∷ 0x10 ∷ 0x00 ∷ []) ∷ (0x02 ∷ 0x00 ∷ 0x02 ∷ 0x00 ∷ 0x12 ∷ 0x00 ∷ [])
    ∷ (0x02 ∷ 0x00 ∷ 0x02 ∷ 0x00 ∷ 0x40 ∷ 0x00 ∷ []) ∷ (0x02 ∷ 0x00 ∷ 0x02 ∷ 0x00 ∷ 0x45 ∷ 0x00 ∷ [])
    ∷ (0x02 ∷ 0x00 ∷ 0x02 ∷ 0x00 ∷ 0x46 ∷ 0x00 ∷ []) ∷ (0x02 ∷ 0x00 ∷ 0x02 ∷ 0x00 ∷ 0x53 ∷ 0x00 ∷ [])
    ∷ (0x02 ∷ 0x00 ∷ 0x02 ∷ 0x00 ∷ 0x54 ∷ 0x00 ∷ []) ∷ (0x02 ∷ 0x00 ∷ 0x02 ∷ 0x00 ∷ 0x5e ∷ 0x00 ∷ []) ∷ []
causes_are_spelled = refl
