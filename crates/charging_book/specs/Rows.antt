-- Open counters and rows as contracts see them.
use Rattle.std.specs.Prelude.{ℕ, Option}
use Rattle.charging_book.specs.declared.records.Why.{Why}

-- what is counted in a life's last piece, and how many rows the life has
pub record Counters : Type 0 where
  pub life : ℕ
  pub ebi : ℕ
  pub qci : ℕ
  pub seq : ℕ
  pub up_octets : ℕ
  pub down_octets : ℕ
  pub up_packets : ℕ
  pub down_packets : ℕ

-- the moments of a piece's first and last packet
pub record Moments : Type 0 where
  pub first : Option ℕ
  pub last : Option ℕ

-- a finished piece
pub record Charged : Type 0 where
  pub life : ℕ
  pub ebi : ℕ
  pub qci : ℕ
  pub seq : ℕ
  pub up_octets : ℕ
  pub down_octets : ℕ
  pub up_packets : ℕ
  pub down_packets : ℕ
  pub first : Option ℕ
  pub last : Option ℕ
  pub why : Why
