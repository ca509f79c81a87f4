-- A packet of a line, under its number among its subscriber's.
use Rattle.std.specs.Prelude.{ℕ}
use Rattle.pc_base.specs.declared.packet.Packet.{Packet}
use Rattle.demux.specs.declared.packet.LentPacket.{LentPacket}

abbrev pub numbered : ℕ → LentPacket → Packet
numbered number lent = record { number = number; moment = lent.moment; way = lent.way; octets = lent.ip }
