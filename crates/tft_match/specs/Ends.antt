-- What is found of a packet before filters are looked at.
use Rattle.std.specs.Prelude.{◌≡◌, ℕ, List}
use Rattle.tft_match.specs.declared.ends.PacketEnds.{PacketEnds}
use Rattle.tft_match.specs.Fit.{remote_address, local_address, remote_port, local_port}

-- a packet of that direction has these addresses and ports
pub record AreEnds (packet : List ℕ) (ends : PacketEnds) : Type 0 where
  pub at_remote : ends.remote_address ≡ remote_address ends.direction packet
  pub at_local : ends.local_address ≡ local_address ends.direction packet
  pub port_at_remote : ends.remote_port ≡ remote_port ends.direction packet
  pub port_at_local : ends.local_port ≡ local_port ends.direction packet
