-- The ranges of a quality of service (TS 29.274, 8.15), and the classes with a guaranteed rate.
use Rattle.std.specs.Prelude.{◌≡◌, ℕ, ◌/◌, ◌%◌, ◌<◌, ◌^◌, Bool, ◌&&◌, nat_le}
use Rattle.bearer_state.specs.declared.qos.Qos.{Qos}

-- an ARP octet whose spare bits 8 and 2 are 0
pub record IsArp (arp : ℕ) : Type 0 where
  pub bit_8 : arp < 128
  pub bit_2 : arp / 2 % 2 ≡ 0

pub record IsQos (qos : Qos) : Type 0 where
  pub arp : IsArp qos.arp
  pub qci : qos.qci < 2 ^ 8
  pub mbr_up : qos.mbr_up < 2 ^ 40
  pub mbr_down : qos.mbr_down < 2 ^ 40
  pub gbr_up : qos.gbr_up < 2 ^ 40
  pub gbr_down : qos.gbr_down < 2 ^ 40

-- QCI 1 to 4 have a guaranteed rate (TS 23.203, table 6.1.7); every other is taken as one without
abbrev pub is_guaranteed : ℕ → Bool
is_guaranteed qci = nat_le 1 qci && nat_le qci 4
