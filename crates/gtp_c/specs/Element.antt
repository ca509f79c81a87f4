-- What a C caller is told of an element's value.
use Rattle.std.specs.Prelude.{
  ◌≡◌,
  ℕ,
  ◌==◌,
  nat_lt,
  is_none,
  List,
  length,
  Option,
  Some,
  None,
  MatchOption,
  if◌then◌else◌,
}
use Rattle.gtpv2_ie.specs.declared.kind.IeKind.{IeKind}
use Rattle.gtpv2_ie.specs.declared.value.IeValue.{IeValue}
use Rattle.gtpv2_ie.specs.declared.value.IeValue.TheVariants as values
use Rattle.gtpv2_ie.specs.Kind.{least_len, no_context}
use Rattle.gtpv2_ie.specs.Value.{kind_value}
use Rattle.gtp_c.specs.declared.element.Ambr.{Ambr}
use Rattle.gtp_c.specs.declared.element.BearerQos.{BearerQos}
use Rattle.gtp_c.specs.declared.element.Cause.{Cause}
use Rattle.gtp_c.specs.declared.element.Fteid.{Fteid}

-- 1 where the octets are fewer than a value of this kind has, 24 where they are outside its grammar
abbrev pub value_code : IeKind → List ℕ → ℕ
value_code kind octets =
    if nat_lt (length octets) (least_len kind) then 1
    else if is_none (kind_value no_context kind octets) then 24
    else 0

-- what is told behind the call says the value that the octets spell, and is as it was where they spell none
abbrev pub Tells : {S : Type 0} → (S → IeValue) → IeKind → List ℕ → S → S → Type 0
Tells said kind octets old new =
    MatchOption (kind_value no_context kind octets) (new ≡ old) (λ value. value ≡ said new)

abbrev pub offending_said : Cause → Option (ℕ × ℕ)
offending_said said =
    if said.has_offending == 0 then None else Some (said.offending_kind, said.offending_instance)

abbrev pub cause_said : Cause → IeValue
cause_said said = values.Cause (record { cause = said.cause; offending = offending_said said })

abbrev pub ambr_said : Ambr → IeValue
ambr_said said = values.Ambr said.up said.down

abbrev pub qos_said : BearerQos → IeValue
qos_said said = values.Qos (record {
  arp = said.arp;
  qci = said.qci;
  mbr_up = said.mbr_up;
  mbr_down = said.mbr_down;
  gbr_up = said.gbr_up;
  gbr_down = said.gbr_down;
})

abbrev pub fteid_said : Fteid → IeValue
fteid_said said = values.Fteid (record { interface = said.interface; teid = said.teid; addr = said.address })
