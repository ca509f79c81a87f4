-- What is remembered of packets that were forwarded, or are held.
use Rattle.std.specs.Prelude.{ℕ, ◌==◌, ◌&&◌, nat_le, Bool, true, List, [], ◌∷◌, length, Option, Some, None}
use Rattle.pc_base.specs.declared.packet.Packet.{Packet}
use Rattle.packet_steps.specs.declared.forwarded.Forwarded.{Forwarded}

-- a packet as it was forwarded
abbrev pub ForwardedRow : Type 0
ForwardedRow = Forwarded

-- a packet that is held, and the life of the bearer that it waits for
pub record HeldRow : Type 0 where
  pub packet : Packet
  pub life : ℕ

-- moments of held packets don't fall, and are at most a last one
abbrev pub in_order : (least most : ℕ) → List HeldRow → Bool
in_order least most [] = true
in_order least most (row ∷ rows) =
    nat_le least row.packet.moment
    && (nat_le row.packet.moment most && in_order row.packet.moment most rows)

-- none is held before the first packet, and none is later than the last one
abbrev pub held_in_order : Option ℕ → List HeldRow → Bool
held_in_order None rows = length rows == 0
held_in_order (Some last) rows = in_order 0 last rows
