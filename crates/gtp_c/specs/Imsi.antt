-- The IMSI that a C caller's struct says.
use Rattle.std.specs.Prelude.{take}
use Rattle.gtpv2_ie.specs.declared.value.IeValue.{IeValue}
use Rattle.gtpv2_ie.specs.declared.value.IeValue.TheVariants as values
use Rattle.gtp_c.specs.declared.imsi.Imsi.{Imsi}

abbrev pub imsi_said : Imsi → IeValue
imsi_said said = values.Imsi (take said.count said.digits)
