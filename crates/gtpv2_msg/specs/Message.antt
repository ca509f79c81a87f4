-- A message as contracts see it.
use Rattle.std.specs.Prelude.{ℕ, List, Option}
use Rattle.gtpv2_ie.specs.Element.{Element}

pub record Message : Type 0 where
  pub kind : ℕ
  pub teid : Option ℕ
  pub seq : ℕ
  pub ies : List Element
