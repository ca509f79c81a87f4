-- The ranges that an element's value keeps.
use Rattle.std.specs.Prelude.{◌≡◌, ℕ, ◌^◌, ◌<◌, ◌≤◌, List, length, IfSome}
use Rattle.std.specs.List.{AllByRecursion}
use Rattle.gtpv2_ie.specs.declared.cause.CauseIe.{CauseIe}
use Rattle.gtpv2_ie.specs.declared.context.Context.{Context}
use Rattle.gtpv2_ie.specs.declared.fteid.Fteid.{Fteid}
use Rattle.gtpv2_ie.specs.declared.qos.QosIe.{QosIe}
use Rattle.gtpv2_ie.specs.declared.value.IeValue.{IeValue}
use Rattle.gtpv2_ie.specs.declared.value.IeValue.TheVariants as values
use Rattle.gtpv2_ie.specs.Context.{counted_len}
use Rattle.gtpv2_ie.specs.Element.{Element}
use Rattle.gtpv2_ie.specs.Fields.{arp_bits}
use Rattle.gtpv2_ie.specs.Imsi.{IsImsi}
use Rattle.gtpv2_ie.specs.Spelling.{context_octets}

-- 0 or 5 to 15
pub record IsEbi (ebi : ℕ) : Type 0 where
  pub four_bits : ebi < 16
  pub assigned : 0 < ebi → 5 ≤ ebi

pub record IsCause (cause : CauseIe) : Type 0 where
  pub octet : cause.cause < 2 ^ 8
  pub offending : IfSome cause.offending (λ of. (of.0 < 2 ^ 8) × (of.1 < 16))

pub record IsFteid (fteid : Fteid) : Type 0 where
  pub interface : fteid.interface < 64
  pub teid : fteid.teid < 2 ^ 32
  pub addr : fteid.addr < 2 ^ 32

pub record IsQos (qos : QosIe) : Type 0 where
  pub arp_octet : qos.arp < 2 ^ 8
  pub arp_spare : arp_bits qos.arp ≡ qos.arp
  pub qci : qos.qci < 2 ^ 8
  pub mbr_up : qos.mbr_up < 2 ^ 40
  pub mbr_down : qos.mbr_down < 2 ^ 40
  pub gbr_up : qos.gbr_up < 2 ^ 40
  pub gbr_down : qos.gbr_down < 2 ^ 40

-- so many octets, at least one
pub record IsOctets (most : ℕ) (octets : List ℕ) : Type 0 where
  pub some : 0 < length octets
  pub few : length octets ≤ most

-- each part is in its range, and the whole fits the length field
pub record IsContext (context : Context) : Type 0 where
  pub ebi : IfSome context.ebi IsEbi
  pub cause : IfSome context.cause IsCause
  pub tft : IfSome context.tft (IsOctets 1000)
  pub fteids : AllByRecursion (λ fteid. (fteid.0 < 16) × IsFteid fteid.1) context.fteids
  pub qos : IfSome context.qos IsQos
  pub len : length (context_octets context) < 2 ^ 16

abbrev pub IsValue : IeValue → Type 0
IsValue (values.Imsi digits) = IsImsi digits
IsValue (values.Cause cause) = IsCause cause
IsValue (values.Recovery counter) = counter < 2 ^ 8
IsValue (values.Apn octets) = IsOctets 100 octets
IsValue (values.Ambr up down) = (up < 2 ^ 32) × (down < 2 ^ 32)
IsValue (values.Ebi ebi) = IsEbi ebi
IsValue (values.Paa addr) = addr < 2 ^ 32
IsValue (values.Qos qos) = IsQos qos
IsValue (values.Rat rat) = rat < 2 ^ 8
IsValue (values.Tft octets) = IsOctets 1000 octets
IsValue (values.Fteid fteid) = IsFteid fteid
IsValue (values.Context context) = IsContext context
IsValue (values.Pdn pdn) = (1 ≤ pdn) × (pdn ≤ 3)

pub record IsElement (ie : Element) : Type 0 where
  pub instance : ie.instance < 16
  pub value : IsValue ie.value

-- an element that takes no more octets in a Context than it was read from
pub record IsCounted (len : ℕ) (ie : Element) : Type 0 where
  pub valid : IsElement ie
  pub no_longer : counted_len ie.value ≤ len
