-- An information element as contracts see it.
use Rattle.std.specs.Prelude.{ℕ}
use Rattle.gtpv2_ie.specs.declared.value.IeValue.{IeValue}

pub record Element : Type 0 where
  pub instance : ℕ
  pub value : IeValue
