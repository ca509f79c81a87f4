-- What a line says, by its kind, as a value: the octets of a message or a template are part of it.
use Rattle.std.specs.Prelude.{ℕ, List}
use Rattle.pc_base.specs.declared.packet.Peer.{Peer}

pub data LineKind : Type 0 where
  S11 : List ℕ → LineKind
  S1u : List ℕ → LineKind
  Sgi : List ℕ → LineKind
  Attach : List ℕ → Peer → ℕ → ℕ → LineKind
  Bearer : List ℕ → ℕ → ℕ → ℕ → ℕ → ℕ → List ℕ → LineKind
  Filters : List ℕ → ℕ → List ℕ → LineKind
  Drop : List ℕ → ℕ → LineKind
  Ambr : List ℕ → ℕ → ℕ → LineKind
  Move : List ℕ → ℕ → LineKind
  Fence : LineKind
